-- The numbers and the offsets of the reasons to refuse kind 6, in their order: 14, then 21, then 12. Assumes nothing.
use Prim.Native.Nat.{ℕ}
use mathlib.Core.Path.{◌≡◌, refl}
use mathlib.Core.Bool.{Bool, true, false}
use mathlib.Core.List.{List, [], ◌∷◌, map}
use native.Mathlib.Omega.{arith}
use lib.Dec.{ltb}
use lib.ListN.{length}
use Rattle.laws.specs.Choice.{pick}
use Rattle.records.specs.Layout.{record_end}
use Rattle.records.specs.Reasons.{Reason}
use Rattle.records.proofs.Reasons.{Some}
use Rattle.blockbits.specs.Reasons.{block_reasons, last_reasons}

pub last-numbers :
    (s : List ℕ) (at n : ℕ) → map (λ (r : Reason). r.number) (last_reasons s at n) ≡ pick (ltb at (length s)) (8 ∷ 9 ∷ 10 ∷ 8 ∷ 14 ∷ 21 ∷ 12 ∷ []) []
unfolding last_reasons
last-numbers s at n = go (ltb at (length s))
  where
    go : (t : Bool) → map (λ (r : Reason). r.number) (pick t (block_reasons s at n) []) ≡ pick t (8 ∷ 9 ∷ 10 ∷ 8 ∷ 14 ∷ 21 ∷ 12 ∷ []) []
    go true = refl
    go false = refl

pub last-offsets :
    (s : List ℕ) (at n : ℕ) →
    map (λ (r : Reason). r.offset) (last_reasons s at n) ≡ pick (ltb at (length s)) (at ∷ at ∷ at ∷ at ∷ at ∷ at ∷ record_end s at ∷ []) []
unfolding last_reasons
last-offsets s at n = go (ltb at (length s))
  where
    go : (t : Bool) → map (λ (r : Reason). r.offset) (pick t (block_reasons s at n) []) ≡ pick t (at ∷ at ∷ at ∷ at ∷ at ∷ at ∷ record_end s at ∷ []) []
    go true = refl
    go false = refl

-- no refusal has the number 0
pub some-last : (s : List ℕ) (at n : ℕ) → Some (last_reasons s at n)
unfolding last_reasons
some-last s at n = go (ltb at (length s))
  where
    go : (t : Bool) → Some (pick t (block_reasons s at n) [])
    go true = (omega arith, (omega arith, (omega arith, (omega arith, (omega arith, (omega arith, (omega arith, tt)))))))
    go false = tt
