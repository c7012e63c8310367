-- The load test, asked of every cell: in the class the lowest cell that is over has a load. Were it idle, the problem of the cells up to it would pass the test
-- of its loaded cells and so be planned, and then none of its cells is over. So the search over the clash rows that asks every cell, with a load or without,
-- names what the load test names (`all-over`, `all_hold`).
-- Assumes nothing.
use Prim.Native.Nat.{ℕ, ◌+◌, ◌-◌, ◌≤◌, ◌<◌, zero-le}
use mathlib.Core.Bool.{Bool, true, false, and-false, false≢true}
use mathlib.Core.List.{List}
use mathlib.Core.Logic.{⊎_elim}
use mathlib.Core.Path.{◌≡◌, refl, sym, ap, ap₂, ◌∙◌}
use native.Mathlib.Omega.{arith}
use borrow.Author.Tests.{ltb-true, ltb-false, lt-ltb, le-ltb}
use lib.Dec.{ltb}
use Rattle.laws.specs.Bits.{bit_in}
use Rattle.laws.specs.Search.{first}
use Rattle.laws.proofs.Choice.{cases}
use Rattle.laws.proofs.Search.{first-most, first_passes, first-before, first-none, first-is}
use Rattle.theory.specs.Net.{Net, everyone, loaded, Class, LoadTest, room, demand}
use Rattle.theory.specs.Verdict.{overloaded, lowest_over, load_verdict, class_verdict}
use Rattle.theory.proofs.Exact.{covers-everyone, covers-loaded, test-plans, class-exact}
use Rattle.site.specs.Record.{fault_of}
use Rattle.site.specs.Reach.{clash_of, net_of}
use Rattle.site.specs.declared.Site.{Site}
use Rattle.std.specs.Prelude.{Ok}
use Rattle.judges.specs.Judges.{load_answer}
use Rattle.judges.specs.declared.LoadVerdict.TheVariants as load
use Rattle.judges.proofs.Laws.{demand-is}
use Rattle.admission.specs.Admit.{is_nested}
use Rattle.admission.specs.Code.{past_room}
use Rattle.admission.proofs.Suits.{class-of}
use Rattle.admission.proofs.Beside.{verdict-of}

-- ---- of a problem

-- the problem of the cells up to i
abbrev up_to_cell : Net → ℕ → Net
up_to_cell s i = record { cells = i + 1; width = s.width; load = s.load; clash = s.clash; usable = s.usable }

module _ (s : Net) (class : Class s everyone) (i : ℕ) (below : (j : ℕ) → j < i → demand s j ≤ room s) where
  -- where cell i is idle, and none before it is over, the cells up to it pass
  passes : loaded s i ≡ false → LoadTest (up_to_cell s i) (loaded (up_to_cell s i))
  passes e j l w =
      ⊎_elim (λ h. below j (ltb-true j i h))
      (λ h.
      let q : j ≡ i = omega (arith, ltb-false j i h) in
      absurd (false≢true (sym e ∙ ap (loaded s) (sym q) ∙ w)))
      (cases (ltb j i))

  idle-holds : i < s.cells → loaded s i ≡ false → demand s i ≤ room s
  idle-holds h e =
      let t = up_to_cell s i in
      (class-exact t everyone (covers-everyone t) (λ a b k l m n. class a b k l m (omega arith))).1 (test-plans t (loaded t) (covers-loaded t) (passes e)) i
      (omega arith) refl

  over-loaded : i < s.cells → room s < demand s i → loaded s i ≡ true
  over-loaded h o = ⊎_elim (λ e. e) (λ e. absurd (omega (arith, idle-holds h e))) (cases (loaded s i))

  -- a cell that is not over is not named
  not_named : (j : ℕ) → j < i → overloaded s (loaded s) j ≡ false
  unfolding overloaded
  not_named j l = rw (le-ltb (room s) (demand s j) (below j l)) (and-false (loaded s j))

  lowest-over : i < s.cells → room s < demand s i → lowest_over s (loaded s) ≡ i
  unfolding lowest_over overloaded
  lowest-over h o =
      first-is (overloaded s (loaded s)) 0 i s.cells zero-le h (rw (over-loaded h o, lt-ltb (room s) (demand s i) o) refl) (λ j _ l. not_named j l)

  none_over : i ≡ s.cells → lowest_over s (loaded s) ≡ s.cells
  unfolding lowest_over
  none_over e = first-none (overloaded s (loaded s)) 0 s.cells zero-le (λ j _ l. not_named j (omega arith))

-- ---- of a site, by its clash rows; r is the room

module _ (s : Site) (fine : fault_of s ≡ Ok tt) (class : is_nested (class_verdict (net_of s) everyone) ≡ true) (rows : List ℕ)
    (relation : bit_in rows ≡ clash_of s)
    (r : ℕ) (all : r ≡ room (net_of s)) (i : ℕ) (e : i ≡ first (past_room s.loads rows r) 0 s.cells) where
  abbrev test : ℕ → Bool
  test = past_room s.loads rows r

  -- where no cell is over the search ends with the last cell
  pub all_asked : s.cells ≤ i → i ≡ s.cells
  all_asked h = omega (arith, first-most test 0 s.cells zero-le)

  test-is : (k : ℕ) → test k ≡ ltb (room (net_of s)) (demand (net_of s) k)
  test-is k = ap₂ ltb all (demand-is s rows relation k)

  below : (j : ℕ) → j < i → demand (net_of s) j ≤ room (net_of s)
  below j l =
      let h : j < first test 0 s.cells = omega (arith, e) in
      ltb-false (room (net_of s)) (demand (net_of s) j) (sym (test-is j) ∙ first-before test 0 s.cells j zero-le h)

  above : i < s.cells → room (net_of s) < demand (net_of s) i
  above h =
      ltb-true (room (net_of s)) (demand (net_of s) i)
      (sym (test-is i) ∙ ap test e ∙ first_passes test 0 s.cells zero-le (omega (arith, e)))

  pub all-over : i < s.cells → (r ≤ demand (net_of s) i) × (load_answer s ≡ Ok (load.Over (i + 1) (demand (net_of s) i - r)))
  unfolding load_verdict
  all-over h =
      let is = lowest-over (net_of s) (class-of (net_of s) class) i below h (above h) in
      (omega (arith, above h), verdict-of s fine ∙ simp (is, lt-ltb i s.cells h, sym all))

  pub all_hold : s.cells ≤ i → load_answer s ≡ Ok load.Holds
  unfolding load_verdict
  all_hold h =
      let is = none_over (net_of s) (class-of (net_of s) class) i below (all_asked h) in
      verdict-of s fine ∙ simp (is, le-ltb s.cells s.cells (omega arith))
