-- The numbers and the offsets of the reasons to refuse the pairs of kind 3, in their order. Assumes nothing.
use Prim.Native.Nat.{ℕ}
use mathlib.Core.Path.{◌≡◌, refl}
use mathlib.Core.List.{List, [], ◌∷◌, map}
use native.Mathlib.Omega.{arith}
use Rattle.records.specs.Reasons.{Reason}
use Rattle.records.proofs.Reasons.{Some}
use Rattle.reachpairs.specs.Reasons.{pair_reasons}

-- of each pair
pub pair-numbers :
    (cells at from to f t : ℕ) (r : List ℕ) →
    (map (λ (x : Reason). x.number) (pair_reasons cells at from to (f ∷ t ∷ r)) ≡ 3 ∷ 11 ∷ map (λ (x : Reason). x.number) (pair_reasons cells at f t r))
    × (map (λ (x : Reason). x.offset) (pair_reasons cells at from to (f ∷ t ∷ r)) ≡ at ∷ at ∷ map (λ (x : Reason). x.offset) (pair_reasons cells at f t r))
unfolding pair_reasons
pair-numbers cells at from to f t r = (refl, refl)

-- no refusal has the number 0
pub some_pairs : (cells at from to : ℕ) (body : List ℕ) → Some (pair_reasons cells at from to body)
unfolding pair_reasons
some_pairs cells at from to [] = tt
some_pairs cells at from to (f ∷ []) = tt
some_pairs cells at from to (f ∷ t ∷ r) = (omega arith, (omega arith, some_pairs cells at f t r))
