-- Where no set of cells is over and there is a numbering, the problem in new numbers has room: the answer `full_renumbered` is never found. In the class a cell
-- whose demand is above the room stands, with its lower clashing cells, in a set that is over; in old numbers these cells clash as well, and their loads come
-- to the same sum.
-- Assumes nothing.
use mathlib.Core.Path.{◌≡◌, refl, sym, ap, ap₂, ◌∙◌}
use mathlib.Core.Bool.{Bool, true, false, true≢false}
use mathlib.Core.List.{List}
use mathlib.Core.Logic.{⊎_elim}
use Prim.Native.Nat.{ℕ, ◌≤◌, ◌<◌}
use native.Mathlib.Omega.{arith}
use lib.Dec.{eqb}
use borrow.Author.Tests.{lt-ltb, eqb-true, eq-eqb, ne_eqb}
use Rattle.laws.specs.Choice.{pick}
use Rattle.laws.specs.Sum.{sum}
use Rattle.laws.proofs.Choice.{cases, alike, order, at_least}
use Rattle.laws.proofs.Sums.{sum-eq, sum-swap, sum-single}
use Rattle.theory.specs.Net.{Net, Class, LoadTest, everyone, room, demand}
use Rattle.theory.specs.Greedy.{Outcome, planned, no_room, greedy, Plans}
use Rattle.theory.specs.Full.{Mutual, weight, around}
use Rattle.theory.proofs.Exact.{class-exact, covers-everyone}
use Rattle.theory.proofs.Full.{over-full}
use Rattle.renumbering.specs.Numbering.{Numbering, numbered, stuck, numbering, index_at}
use Rattle.renumbering.specs.Renumbers.{Renumbers, renumbered, Symmetric}
use Rattle.renumbering.proofs.Renumber.{numbers-renumber, numbered-class}
use Rattle.tries.specs.Search.{searched}
use Rattle.search.specs.Search.{too_large}
use Rattle.finding.specs.Found.{Found, greedily, over_by, renumbered_plan, full_renumbered, by_search, unsearched, found_anew, found_numbered, heaviest_over}
use Rattle.finding.specs.Found.{found_else, found_by, found_of}
use Rattle.finding.specs.Means.{NoneOver}
use Rattle.finding.proofs.Over.{none_over}
use Rattle.finding.proofs.Right.{no-plan}

-- ---- a sum in new numbers

module _ (n : ℕ) (new old : ℕ → ℕ) (r : Renumbers n new old) (g : ℕ → ℕ) where
  -- what a adds to the place i
  abbrev at : ℕ → ℕ → ℕ
  at i a = pick (eqb a (new i)) (g a) 0

  one-new : (i : ℕ) → i < n → sum (at i) n ≡ g (new i)
  one-new i l =
      sum-single (at i) (new i) n (λ a h. ap (λ t. pick t (g a) 0) (ne_eqb a (new i) h))
      ∙ ap₂ (λ t u. pick t (pick u (g (new i)) 0) 0) (lt-ltb (new i) n (r.new_in i l)) (eq-eqb (new i) (new i) refl)

  same-pair : (i a : ℕ) → i < n → a < n → eqb a (new i) ≡ eqb i (old a)
  same-pair i a l m =
      alike (eqb a (new i)) (eqb i (old a))
      (λ e. eq-eqb i (old a) (sym (r.old_new i l) ∙ ap old (sym (eqb-true a (new i) e))))
      (λ e. eq-eqb a (new i) (sym (r.new_old a m) ∙ ap new (sym (eqb-true i (old a) e))))

  one-old : (a : ℕ) → a < n → sum (λ i. at i a) n ≡ g a
  one-old a l =
      sum-eq (λ i. at i a) (λ i. pick (eqb i (old a)) (g a) 0) n (λ i m. ap (λ t. pick t (g a) 0) (same-pair i a m l))
      ∙ sum-single (λ i. pick (eqb i (old a)) (g a) 0) (old a) n (λ i h. ap (λ t. pick t (g a) 0) (ne_eqb i (old a) h))
      ∙ ap₂ (λ t u. pick t (pick u (g a) 0) 0) (lt-ltb (old a) n (r.old_in a l)) (eq-eqb (old a) (old a) refl)

  sum-anew : sum (λ i. g (new i)) n ≡ sum g n
  sum-anew =
      sym (sum-eq (λ i. sum (at i) n) (λ i. g (new i)) n one-new)
      ∙ sum-swap at n n
      ∙ sum-eq (λ a. sum (λ i. at i a) n) g n one-old

-- ---- sets of cells in new numbers

module _ (s : Net) (symmetric : Symmetric s.clash) (new old : ℕ → ℕ) (r : Renumbers s.cells new old) (chosen : ℕ → Bool) where
  abbrev here : ℕ → Bool
  here i = chosen (new i)

  same-weight : weight s here ≡ weight (renumbered old s) chosen
  same-weight =
      sum-eq (λ i. pick (chosen (new i)) (s.load i) 0) (λ i. pick (chosen (new i)) (s.load (old (new i))) 0) s.cells
      (λ i l. ap (λ (k : ℕ). pick (chosen (new i)) (s.load k) 0) (sym (r.old_new i l)))
      ∙ sum-anew s.cells new old r (λ a. pick (chosen a) (s.load (old a)) 0)

  mutual-here : Mutual (renumbered old s) chosen → Mutual s here
  mutual-here h a b l m p q =
      let la : a < s.cells = omega arith in
      ⊎_elim
      (λ o. sym (ap₂ s.clash (r.old_new a la) (r.old_new b m)) ∙ h (new a) (new b) o (r.new_in b m) p q)
      (⊎_elim
      (λ e. let same : a ≡ b = sym (r.old_new a la) ∙ ap old e ∙ r.old_new b m in absurd (omega arith))
      (λ o. symmetric a b ∙ sym (ap₂ s.clash (r.old_new b m) (r.old_new a la)) ∙ h (new b) (new a) o (r.new_in a la) q p))
      (order (new a) (new b))

-- ---- the answer is never found

module _ (s : Net) (symmetric : Symmetric s.clash) (few : s.cells ≤ 32) (under : NoneOver s) where
  module _ (new old : List ℕ) (found : numbering 32 s.clash s.cells ≡ numbered new old) where
    renumbers : Renumbers s.cells (index_at new) (index_at old)
    renumbers = numbers-renumber s symmetric 32 few new old found

    abbrev anew : Net
    anew = renumbered (index_at old) s

    class : Class anew everyone
    class = numbered-class s symmetric 32 few new old found anew.load everyone

    test : LoadTest anew everyone
    test i l h =
        at_least (demand anew i) (room anew)
        (λ m.
        let f = over-full anew i everyone (covers-everyone anew) class l refl m in
        let u = under (λ j. around anew i (index_at new j)) (mutual-here s symmetric (index_at new) (index_at old) renumbers (around anew i) f.0) in
        omega (arith, f.1, u, same-weight s symmetric (index_at new) (index_at old) renumbers (around anew i)))

    pub plans-anew : Plans anew
    plans-anew = (class-exact anew everyone (covers-everyone anew) class).0 test

-- what is found by the class
abbrev is_full_anew : Found → Bool
is_full_anew (greedily t) = false
is_full_anew (over_by x) = false
is_full_anew (renumbered_plan new t) = false
is_full_anew full_renumbered = true
is_full_anew (by_search x) = false
is_full_anew unsearched = false

module _ (s : Net) (symmetric : Symmetric s.clash) (few : s.cells ≤ 32) (limit : ℕ) where
  anew-never : (new old : List ℕ) → NoneOver s → numbering 32 s.clash s.cells ≡ numbered new old
      → (o : Outcome) → greedy (renumbered (index_at old) s) ≡ o → is_full_anew (found_anew new o) ≡ false
  anew-never new old under e (planned t) g = refl
  anew-never new old under e (no_room c m) g = absurd (no-plan (renumbered (index_at old) s) c m g (plans-anew s symmetric few under new old e))

  sought-never : (b : Bool) → is_full_anew (pick b unsearched (by_search (searched s limit))) ≡ false
  sought-never true = refl
  sought-never false = refl

  numbered-never : NoneOver s → (x : Numbering) → numbering 32 s.clash s.cells ≡ x → is_full_anew (found_numbered s limit x) ≡ false
  numbered-never under (numbered new old) e = anew-never new old under e (greedy (renumbered (index_at old) s)) refl
  numbered-never under stuck e = sought-never (too_large s)

  by-never : (o : Outcome) → is_full_anew (found_by s limit o) ≡ false
  unfolding found_else
  by-never (planned t) = refl
  by-never (no_room c m) =
      ⊎_elim
      (λ e. rw e refl)
      (λ e. rw e (numbered-never (none_over s e) (numbering 32 s.clash s.cells) refl))
      (cases (heaviest_over s))

  pub never-full : found_of s limit ≡ full_renumbered → ⊥
  unfolding found_of
  never-full e = true≢false (sym (ap is_full_anew e) ∙ by-never (greedy s))
