-- The numbers and values given back tell a share's answers apart: two answers that give the same are one. By cases; two cases have two numbers.
-- Assumes nothing.
use mathlib.Core.Path.{◌≡◌, refl, ap}
use mathlib.Core.List.{[], ◌∷◌, map}
use native.Mathlib.Omega.{arith}
use Rattle.std.specs.Prelude.{Result, Ok, Err}
use Rattle.site.specs.Given.{Given, as_list}
use Rattle.shares.specs.Share.{Shares, shares_by}
use Rattle.shares.specs.Given.{share_given}
use Rattle.shares.specs.declared.Fragments.{Fragments}
use Rattle.shares.specs.declared.Slots.{Slots}
use Rattle.shares.specs.declared.ShareError.{ShareError}
use Rattle.shares.specs.declared.ShareError.TheVariants.{OutOfRange, BadFlow, BigShare}

-- the number of each case, and its values after it
pub numbers : (s q : Fragments) (d : Slots)
    → map (λ a. as_list (share_given a)) (Ok (s, q, d) ∷ Err OutOfRange ∷ Err BadFlow ∷ Err BigShare ∷ [])
    ≡ (0 ∷ s.0 ∷ q.0 ∷ d.0 ∷ []) ∷ (1 ∷ []) ∷ (15 ∷ []) ∷ (16 ∷ []) ∷ []
numbers s q d = refl

-- two cases with two numbers
apart : {g h : Given} → g ≡ h → (g.number ≡ h.number → ⊥) → ⊥
apart e n = n (ap (λ (x : Given). x.number) e)

pub share-told : (a b : Result Shares ShareError) → share_given a ≡ share_given b → a ≡ b
share-told (Ok (s, q, d)) (Ok (s', q', d')) e =
    let v : s.0 ∷ q.0 ∷ d.0 ∷ [] ≡ s'.0 ∷ q'.0 ∷ d'.0 ∷ [] = ap (λ (x : Given). x.values) e in
    let x : s.0 ≡ s'.0 = cc in
    let y : q.0 ≡ q'.0 = cc in
    let z : d.0 ≡ d'.0 = cc in
    (λ i. Ok (shares_by (x i) (y i) (z i)))
share-told (Err OutOfRange) (Err OutOfRange) e = refl
share-told (Err BadFlow) (Err BadFlow) e = refl
share-told (Err BigShare) (Err BigShare) e = refl
share-told (Ok (s, q, d)) (Err OutOfRange) e = absurd (apart e (λ n. omega arith))
share-told (Ok (s, q, d)) (Err BadFlow) e = absurd (apart e (λ n. omega arith))
share-told (Ok (s, q, d)) (Err BigShare) e = absurd (apart e (λ n. omega arith))
share-told (Err OutOfRange) (Ok (s, q, d)) e = absurd (apart e (λ n. omega arith))
share-told (Err OutOfRange) (Err BadFlow) e = absurd (apart e (λ n. omega arith))
share-told (Err OutOfRange) (Err BigShare) e = absurd (apart e (λ n. omega arith))
share-told (Err BadFlow) (Ok (s, q, d)) e = absurd (apart e (λ n. omega arith))
share-told (Err BadFlow) (Err OutOfRange) e = absurd (apart e (λ n. omega arith))
share-told (Err BadFlow) (Err BigShare) e = absurd (apart e (λ n. omega arith))
share-told (Err BigShare) (Ok (s, q, d)) e = absurd (apart e (λ n. omega arith))
share-told (Err BigShare) (Err OutOfRange) e = absurd (apart e (λ n. omega arith))
share-told (Err BigShare) (Err BadFlow) e = absurd (apart e (λ n. omega arith))
