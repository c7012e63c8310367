-- The numbers and the offsets of the reasons to refuse the head of a site file, in their order. Assumes nothing.
use Prim.Native.Nat.{ℕ}
use mathlib.Core.Path.{◌≡◌, refl}
use mathlib.Core.Bool.{Bool, true, false}
use mathlib.Core.List.{List, [], ◌∷◌, map}
use native.Mathlib.Omega.{arith}
use Rattle.laws.specs.Choice.{pick}
use Rattle.records.specs.Reasons.{Reason}
use Rattle.records.specs.Head.{head_reasons}
use Rattle.records.proofs.Reasons.{Some}
use Rattle.sitehead.specs.Head.{is_ruled, ruled_reasons, site_head_reasons}

-- the head: W11, 24 after 1, of kind 5 alone
pub head-numbers :
    (s : List ℕ) → map (λ (r : Reason). r.number) (site_head_reasons s) ≡ pick (is_ruled s) (8 ∷ 9 ∷ 10 ∷ 8 ∷ 1 ∷ 24 ∷ []) (8 ∷ 9 ∷ 10 ∷ 8 ∷ 1 ∷ [])
unfolding site_head_reasons
head-numbers s = go (is_ruled s)
  where
    go :
        (t : Bool) →
        map (λ (r : Reason). r.number) (pick t (ruled_reasons s) (head_reasons s)) ≡ pick t (8 ∷ 9 ∷ 10 ∷ 8 ∷ 1 ∷ 24 ∷ []) (8 ∷ 9 ∷ 10 ∷ 8 ∷ 1 ∷ [])
    go true = refl
    go false = refl

pub head-offsets :
    (s : List ℕ) → map (λ (r : Reason). r.offset) (site_head_reasons s) ≡ pick (is_ruled s) (0 ∷ 0 ∷ 0 ∷ 0 ∷ 0 ∷ 0 ∷ []) (0 ∷ 0 ∷ 0 ∷ 0 ∷ 0 ∷ [])
unfolding site_head_reasons
head-offsets s = go (is_ruled s)
  where
    go :
        (t : Bool) →
        map (λ (r : Reason). r.offset) (pick t (ruled_reasons s) (head_reasons s)) ≡ pick t (0 ∷ 0 ∷ 0 ∷ 0 ∷ 0 ∷ 0 ∷ []) (0 ∷ 0 ∷ 0 ∷ 0 ∷ 0 ∷ [])
    go true = refl
    go false = refl

-- no refusal has the number 0
pub some-head : (s : List ℕ) → Some (site_head_reasons s)
unfolding site_head_reasons
some-head s = go (is_ruled s)
  where
    go : (t : Bool) → Some (pick t (ruled_reasons s) (head_reasons s))
    go true = (omega arith, (omega arith, (omega arith, (omega arith, (omega arith, (omega arith, tt))))))
    go false = (omega arith, (omega arith, (omega arith, (omega arith, (omega arith, tt)))))
