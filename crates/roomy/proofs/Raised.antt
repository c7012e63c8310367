-- A load that is raised by m raises the demands that have it in them by m, and no other. So the load test holds with so much more exactly up to what it leaves.
--     demand-raised    the demand of every cell
--     raised-holds     where the load test holds it holds with as much more as it leaves
--     raised-most      and with no more
--     none_left        where it fails it leaves nothing
-- Assumes nothing.
use mathlib.Core.Path.{◌≡◌, refl, sym, ap, ap₂, ◌∙◌}
use mathlib.Core.Bool.{Bool, true, false, ◌&&◌, ◌||◌, or-true}
use mathlib.Core.Logic.{⊎_elim}
use Prim.Native.Nat.{ℕ, ◌+◌, ◌-◌, ◌≤◌, ◌<◌, zero-le}
use native.Mathlib.Omega.{arith}
use lib.Dec.{ltb, eqb}
use borrow.Author.Tests.{ltb-true, ltb-false, lt-ltb, le-ltb, eqb-true, eqb-false, eq-eqb, ne_eqb}
use Rattle.laws.specs.Choice.{pick}
use Rattle.laws.specs.Sum.{sum}
use Rattle.laws.proofs.Choice.{cases, both}
use Rattle.laws.proofs.Sums.{sum-eq, sum-add, sum-single}
use Rattle.theory.specs.Net.{Net, LoadTest, loaded, room, lower, demand}
use Rattle.theory.specs.Verdict.{most_demand}
use Rattle.theory.proofs.LoadLaws.{demand-most, most-demand-one, most-demand-test}
use Rattle.roomy.specs.Room.{raised, touched, counted_with, room_left}

-- a raised load, where a cell counts it
part : (c e : Bool) (l m : ℕ) → pick c (pick e (l + m) l) 0 ≡ pick c l 0 + pick e (pick c m 0) 0
part true true l m = refl
part true false l m = omega arith
part false true l m = refl
part false false l m = refl

module _ (s : Net) (i m : ℕ) where
  -- what cell k's raise adds to the demand of cell j
  abbrev adds : ℕ → ℕ → ℕ
  adds j k = pick (eqb k i) (pick (s.clash k j) m 0) 0

  lower-raised : (j : ℕ) → lower (raised s i m) j ≡ lower s j + pick (ltb i j) (pick (s.clash i j) m 0) 0
  lower-raised j =
      let own : sum (adds j) j ≡ pick (ltb i j) (pick (s.clash i j) m 0) 0 =
      sum-single (adds j) i j (λ k n. ap (λ t. pick t (pick (s.clash k j) m 0) 0) (ne_eqb k i n))
      ∙ ap (λ t. pick (ltb i j) (pick t (pick (s.clash i j) m 0) 0) 0) (eq-eqb i i refl) in
      sum-eq (λ k. pick (s.clash k j) ((raised s i m).load k) 0) (λ k. pick (s.clash k j) (s.load k) 0 + adds j k) j
      (λ k _. part (s.clash k j) (eqb k i) (s.load k) m)
      ∙ sum-add (λ k. pick (s.clash k j) (s.load k) 0) (adds j) j
      ∙ ap (λ (n : ℕ). lower s j + n) own

  -- the cell's own demand
  pub demand_own : demand (raised s i m) i ≡ demand s i + m
  demand_own =
      let low = lower-raised i in
      let none : pick (ltb i i) (pick (s.clash i i) m 0) 0 ≡ 0 = rw (le-ltb i i (omega arith)) in
      let here : (raised s i m).load i ≡ s.load i + m = rw (eq-eqb i i refl) in
      omega arith

  -- that of another: of one above it that clashes with it, and of the others
  module _ (j : ℕ) (other : j ≡ i → ⊥) where
    load-other : (raised s i m).load j ≡ s.load j
    load-other = rw (ne_eqb j i other)

    pub demand-near : i < j → s.clash i j ≡ true → demand (raised s i m) j ≡ demand s j + m
    demand-near l e =
        let low = lower-raised j in
        let adds-m : pick (ltb i j) (pick (s.clash i j) m 0) 0 ≡ m = rw (lt-ltb i j l, e) in
        omega (arith, load-other)

    pub demand-far : (ltb i j && s.clash i j) ≡ false → demand (raised s i m) j ≡ demand s j
    demand-far e =
        let low = lower-raised j in
        let none : pick (ltb i j) (pick (s.clash i j) m 0) 0 ≡ 0 = nothing (ltb i j) (s.clash i j) m e in
        omega (arith, load-other)
      where
        nothing : (a b : Bool) (m : ℕ) → (a && b) ≡ false → pick a (pick b m 0) 0 ≡ 0
        nothing true true m e = absurd (let z : ◌≡◌ {A = ℕ} 0 1 = cc in omega arith)
        nothing true false m e = refl
        nothing false b m e = refl

  -- no demand falls
  pub demand-up : (j : ℕ) → demand s j ≤ demand (raised s i m) j
  demand-up j =
      ⊎_elim
      (λ e. let same : j ≡ i = eqb-true j i e in rw same (omega (arith, demand_own)))
      (λ e. ⊎_elim
      (λ h. let w = both (ltb i j) (s.clash i j) h in omega (arith, demand-near j (eqb-false j i e) (ltb-true i j w.0) w.1))
      (λ h. omega (arith, demand-far j (eqb-false j i e) h)) (cases (ltb i j && s.clash i j)))
      (cases (eqb j i))

-- ---- who is touched

module _ (s : Net) (i : ℕ) where
  self-touched : touched s i i ≡ true
  unfolding touched
  self-touched = rw (eq-eqb i i refl)

  near-touched : (j : ℕ) → i < j → s.clash i j ≡ true → loaded s j ≡ true → touched s i j ≡ true
  unfolding touched
  near-touched j l e w = rw (ne_eqb j i (omega arith), lt-ltb i j l, e, w)

  -- a touched cell that is another
  touched-near : (j : ℕ) → (j ≡ i → ⊥) → touched s i j ≡ true → (i < j) × (s.clash i j ≡ true) × (loaded s j ≡ true)
  unfolding touched
  touched-near j n e =
      let g : (ltb i j && (s.clash i j && loaded s j)) ≡ true = rw (ne_eqb j i n) at e in
      let x = both (ltb i j) (s.clash i j && loaded s j) g in
      let y = both (s.clash i j) (loaded s j) x.1 in
      (ltb-true i j x.0, y.0, y.1)

  -- ---- what is left

  left-holds : LoadTest s (loaded s) → room_left s i ≡ room s - most_demand s (touched s i)
  unfolding room_left
  left-holds h = rw (le-ltb (room s) (most_demand s (loaded s)) ((most-demand-test s (loaded s)).1 h))

  pub none_left : (LoadTest s (loaded s) → ⊥) → room_left s i ≡ 0
  unfolding room_left
  none_left n =
      ⊎_elim (λ e. rw e) (λ e. absurd (n ((most-demand-test s (loaded s)).0 (ltb-false (room s) (most_demand s (loaded s)) e))))
      (cases (ltb (room s) (most_demand s (loaded s))))

  module _ (inside : i < s.cells) (m : ℕ) where
    -- ---- as much more as is left

    module _ (holds : LoadTest s (loaded s)) (few : m ≤ room_left s i) where
      -- nothing more, or enough above every demand that is touched
      above : (j : ℕ) → j < s.cells → touched s i j ≡ true → 0 < m → demand s j + m ≤ room s
      above j l t p = omega (arith, left-holds holds, few, demand-most s (touched s i) j l t)

      none : m ≡ 0 → (j : ℕ) → loaded (raised s i m) j ≡ loaded s j
      none z j = same (eqb j i) (s.load j)
        where
          same : (t : Bool) (l : ℕ) → ltb 0 (pick t (l + m) l) ≡ ltb 0 l
          same true l = let q : l + m ≡ l = omega (arith, z) in ap (ltb 0) q
          same false l = refl

      own : loaded (raised s i m) i ≡ true → demand (raised s i m) i ≤ room s
      own w =
          ⊎_elim
          (λ e. omega (arith, demand_own s i m, above i inside self-touched (ltb-true 0 m e)))
          (λ e.
          let z : m ≡ 0 = omega (arith, ltb-false 0 m e) in
          omega (arith, demand_own s i m, holds i inside (sym (none z i) ∙ w)))
          (cases (ltb 0 m))

      other : (j : ℕ) → j < s.cells → (j ≡ i → ⊥) → loaded (raised s i m) j ≡ true → demand (raised s i m) j ≤ room s
      other j l n w =
          let was : loaded s j ≡ true = rw (ne_eqb j i n) at w in
          ⊎_elim
          (λ h.
          let x = both (ltb i j) (s.clash i j) h in
          let up = demand-near s i m j n (ltb-true i j x.0) x.1 in
          ⊎_elim
          (λ e. omega (arith, above j l (near-touched j (ltb-true i j x.0) x.1 was) (ltb-true 0 m e)))
          (λ e. omega (arith, ltb-false 0 m e, holds j l was)) (cases (ltb 0 m)))
          (λ h. omega (arith, demand-far s i m j n h, holds j l was))
          (cases (ltb i j && s.clash i j))

      pub raised-holds : LoadTest (raised s i m) (loaded (raised s i m))
      raised-holds j l w =
          ⊎_elim
          (λ e.
          let same : j ≡ i = eqb-true j i e in
          let w' : loaded (raised s i m) i ≡ true = ap (loaded (raised s i m)) (sym same) ∙ w in
          rw same (own w'))
          (λ e. other j l (eqb-false j i e) w) (cases (eqb j i))

    -- ---- and no more

    module _ (test : LoadTest (raised s i m) (counted_with s i)) where
      counts : (j : ℕ) → loaded s j ≡ true → counted_with s i j ≡ true
      counts j w = ap (λ t. eqb j i || t) w ∙ or-true (eqb j i)

      as-it-is : LoadTest s (loaded s)
      as-it-is j l w = omega (arith, demand-up s i m j, test j l (counts j w))

      own-fits : demand s i + m ≤ room s
      own-fits = omega (arith, demand_own s i m, test i inside (rw (eq-eqb i i refl)))

      touched-fits : (j : ℕ) → j < s.cells → touched s i j ≡ true → demand s j + m ≤ room s
      touched-fits j l t =
          ⊎_elim
          (λ e. let same : j ≡ i = eqb-true j i e in rw same own-fits)
          (λ e.
          let x = touched-near j (eqb-false j i e) t in
          omega (arith, demand-near s i m j (eqb-false j i e) x.0 x.1, test j l (counts j x.2)))
          (cases (eqb j i))

      pub raised-most : m ≤ room_left s i
      raised-most =
          ⊎_elim
          (λ w. omega (arith, left-holds as-it-is, w.3, touched-fits w.0 w.1 w.2))
          (λ z. omega (arith, left-holds as-it-is, z, own-fits))
          (most-demand-one s (touched s i))
