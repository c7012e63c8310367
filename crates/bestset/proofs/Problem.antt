-- The arrays stand for the problem: where they state one in the class, the search over the arrays is the plain search of the definition over the problem,
-- since a set fits beside the loads in every cell exactly where it passes the load test.
-- Assumes nothing.
use mathlib.Core.Path.{◌≡◌, refl, ap, ◌∙◌}
use mathlib.Core.Bool.{Bool, true, false, not, ◌&&◌, ◌||◌}
use mathlib.Core.List.{List}
use mathlib.Core.Logic.{⊎_elim, ◌↔◌}
use Prim.Native.Nat.{ℕ, ◌^◌, ◌≤◌, ◌<◌}
use native.Mathlib.Omega.{arith}
use lib.Dec.{ltb, eqb}
use lib.ListN.{get_or}
use lib.Pow.{pow_pos}
use borrow.Author.Tests.{ltb-true, ltb-false, le-ltb, ne_eqb, not-true}
use Rattle.laws.specs.Choice.{pick}
use Rattle.laws.proofs.Any.{any_none, none_any}
use Rattle.laws.proofs.Choice.{alike, cases}
use Rattle.theory.specs.Net.{Net}
use Rattle.admitting.specs.Best.{Flows, total, worth, allowed_beside, best_beside}
use Rattle.bestset.specs.Code.{flows_in, weighed, weight_at, demand_in, fits_in, best_in, Stands}
use Rattle.admitting.proofs.Sets.{total-eq, total-zero}
use Rattle.admitting.proofs.Best.{best-alike}
use Rattle.bestset.proofs.Demand.{allowed-flat}

module _ (rooms rows cell share value : List ℕ) (n : ℕ) where
  fits-means : (x : ℕ) → fits_in rooms rows cell share n x ≡ true ↔ ((i : ℕ) → i < 32 → demand_in rows cell share n x i ≤ get_or rooms i 0)
  unfolding fits_in
  fits-means x = (
    λ e i l. ltb-false _ _ (any_none (λ i. ltb (get_or rooms i 0) (demand_in rows cell share n x i)) 32 (not-true _ e) i l),
    λ h. ap not (none_any (λ i. ltb (get_or rooms i 0) (demand_in rows cell share n x i)) 32 (λ i l. le-ltb _ _ (h i l))),
  )

  module _ (few : n ≤ 16) (s : Net) (stands : Stands s rooms rows cell) where
    abbrev flows : Flows
    flows = flows_in cell share value n

    demand-same : (x i : ℕ) → demand_in rows cell share n x i ≡ total (weight_at s flows i) n x
    demand-same x i = ap (λ (c : ℕ → ℕ → Bool). total (λ k. weighed c (get_or cell k 0) (get_or share k 0) i) n x) stands.clash_is

    -- no flow adds anything in a spare cell
    none_past : (x i : ℕ) → s.cells ≤ i → i < 32 → total (weight_at s flows i) n x ≡ 0
    none_past x i l h =
        total-eq (weight_at s flows i) (λ _. 0) n x
        (λ k m.
        let own = stands.inside k (omega arith) in
        let apart : eqb (get_or cell k 0) i ≡ false = ne_eqb (get_or cell k 0) i (λ e. omega (arith, own)) in
        rw (apart, stands.none_past (get_or cell k 0) i own l h) (nothing (ltb (get_or cell k 0) i) (get_or share k 0)))
        ∙ total-zero n x
      where
        nothing : (b : Bool) (v : ℕ) → pick (false || (b && false)) v 0 ≡ 0
        nothing true v = refl
        nothing false v = refl

    verdicts : (x : ℕ) → fits_in rooms rows cell share n x ≡ allowed_beside s flows x
    verdicts x =
        let flat = allowed-flat s flows stands.class x in
        alike (fits_in rooms rows cell share n x) (allowed_beside s flows x)
        (λ e. flat.1 (λ i l. omega (arith, stands.rooms_are i l, stands.few_cells, demand-same x i, (fits-means x).0 e i (omega (arith, stands.few_cells)))))
        (λ e. (fits-means x).1 (λ i l.
        ⊎_elim
        (λ h. omega (arith, stands.rooms_are i (ltb-true i s.cells h), demand-same x i, flat.0 e i (ltb-true i s.cells h)))
        (λ h. omega (arith, demand-same x i, none_past x i (ltb-false i s.cells h) l))
        (cases (ltb i s.cells))))

    pub best-in-is : best_in rooms rows cell share value n ≡ best_beside s flows
    unfolding best_beside best_in
    best-in-is =
        best-alike (fits_in rooms rows cell share n) (allowed_beside s flows) (worth flows) (worth flows) (2 ^ n) 0 0 (λ y _. verdicts y) (λ y _. refl)
        (omega arith)
        (omega (arith, pow_pos n))
