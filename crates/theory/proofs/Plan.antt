-- A table is the plan exactly where the greedy run comes to its first IN bytes; so it has as many. Assumes nothing.
use mathlib.Core.Path.{◌≡◌, refl, ap, ◌∙◌}
use mathlib.Core.Bool.{true, false≢true}
use mathlib.Core.List.{List, [], ◌∷◌}
use mathlib.Core.Logic.{◌↔◌}
use Prim.Native.Nat.{ℕ, ◌*◌, ◌≤◌}
use native.Mathlib.Omega.{arith}
use borrow.Author.Tests.{eqb-true, eq-eqb}
use lib.Dec.{eqb}
use lib.ListN.{length, take, length-take}
use Rattle.laws.proofs.Choice.{both, both_is}
use Rattle.theory.specs.Net.{Net}
use Rattle.theory.specs.Greedy.{Outcome, planned, no_room, greedy}
use Rattle.theory.specs.Plan.{same_bytes, comes_to, is_plan}
use Rattle.theory.proofs.Exact.{planned-size}

same-is : (t u : List ℕ) → same_bytes t u ≡ true → t ≡ u
unfolding same_bytes
same-is [] [] h = refl
same-is [] (c ∷ u) h = absurd (false≢true h)
same-is (b ∷ t) [] h = absurd (false≢true h)
same-is (b ∷ t) (c ∷ u) h =
    let z = both (eqb b c) (same_bytes t u) h in
    (λ x. eqb-true b c z.0 x ∷ same-is t u z.1 x)

same_refl : (t : List ℕ) → same_bytes t t ≡ true
unfolding same_bytes
same_refl [] = refl
same_refl (b ∷ t) = both_is (eqb b b) (same_bytes t t) (eq-eqb b b refl) (same_refl t)

comes : (o : Outcome) (u : List ℕ) → comes_to o u ≡ true → o ≡ planned u
comes (planned t) u h = ap planned (same-is t u h)
comes (no_room c m) u h = absurd (false≢true h)

pub is-plan : (s : Net) (t : List ℕ) → is_plan s t ≡ true ↔ (greedy s ≡ planned (take (s.cells * s.width) t))
unfolding is_plan
is-plan s t = (
  comes (greedy s) (take (s.cells * s.width) t),
  λ e. ap (λ o. comes_to o (take (s.cells * s.width) t)) e ∙ same_refl (take (s.cells * s.width) t),
)

-- no shorter table is the plan
pub plan-long : (s : Net) (t : List ℕ) → is_plan s t ≡ true → s.cells * s.width ≤ length t
plan-long s t h =
    let e = planned-size s (take (s.cells * s.width) t) ((is-plan s t).0 h) in
    omega (arith, simp length-take at e)
