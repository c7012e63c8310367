-- Each fault that a table has is in the list once, and nothing else is. A fault is counted list by list: only in the list of its kind, its position and its
-- first cell can it be, and there it stands at one place, where the test that puts it there is the fault's.
--     faults-once     a fault is in the list exactly once
--     faults-only     what is in the list is a fault
--     faults-length   how many they are, counted by tests
-- Assumes nothing.
use mathlib.Core.Path.{◌≡◌, refl, sym, ap, ◌∙◌}
use mathlib.Core.Bool.{Bool, true, false, not, ◌&&◌, and-true}
use mathlib.Core.List.{List, [], ◌∷◌, ◌++◌}
use Prim.Native.Nat.{ℕ, ◌+◌, ◌<◌}
use native.Mathlib.Omega.{arith}
use lib.Dec.{ltb, eqb}
use lib.ListN.{length, length-append}
use borrow.Author.Tests.{ltb-true, lt-ltb, eqb-true, eqb-false, eq-eqb, ne_eqb, not-true}
use Rattle.laws.specs.Choice.{pick}
use Rattle.laws.specs.Sum.{bit, sum, count}
use Rattle.laws.proofs.Choice.{both}
use Rattle.laws.proofs.Sums.{sum-eq}
use Rattle.theory.specs.Net.{Net, Reserved}
use Rattle.theory.specs.Verdict.{TableVerdict, valid, barred, clash, wrong, wrong_in}
use Rattle.faults.specs.Faults.{in_turn, passed, barred_by, clash_by, barred_all, clashes_with, clashes_all, wrong_all, faults}
use Rattle.faults.specs.Means.{same, times, FaultOf}
use Rattle.faults.proofs.InTurn.{turn-length, passed_length, times-append, times-one, times_none, times-item}

-- no item is the fault: it is not there
none_of : (v : TableVerdict) (p : ℕ → Bool) (item : ℕ → TableVerdict) (n : ℕ) → ((j : ℕ) → same v (item j) ≡ false) → times v (passed p item n) ≡ 0
none_of v p item n h = times_none v (λ k. pick (p k) (item k ∷ []) []) n (λ j. times-item v (item j) (p j) ∙ off (p j) (h j))
  where
    off : {y : Bool} (x : Bool) → y ≡ false → bit (x && y) ≡ 0
    off true e = rw e
    off false e = refl

-- one item alone can be the fault: it is there where that passes
one_of_holds : (v : TableVerdict) (p : ℕ → Bool) (item : ℕ → TableVerdict) (c n : ℕ) → ((j : ℕ) → (j ≡ c → ⊥) → same v (item j) ≡ false)
    → times v (passed p item n) ≡ bit (ltb c n && (p c && same v (item c)))
one_of_holds v p item c n h =
    times-one v (λ k. pick (p k) (item k ∷ []) []) c n (λ j q. times-item v (item j) (p j) ∙ off (p j) (h j q))
    ∙ ap (λ (x : ℕ). pick (ltb c n) x 0) (times-item v (item c) (p c)) ∙ at (ltb c n) (p c && same v (item c))
  where
    off : {y : Bool} (x : Bool) → y ≡ false → bit (x && y) ≡ 0
    off true e = rw e
    off false e = refl

    at : (x y : Bool) → pick x (bit y) 0 ≡ bit (x && y)
    at true y = refl
    at false y = refl

within : (x y : Bool) → pick x (bit y) 0 ≡ bit (x && y)
within true y = refl
within false y = refl

unlike : (a b : ℕ) (y : Bool) → (b ≡ a → ⊥) → (eqb a b && y) ≡ false
unlike a b y h = rw (ne_eqb a b (λ e. h (sym e)))

itself : (a : ℕ) → eqb a a ≡ true
itself a = eq-eqb a a refl

three : (v : TableVerdict) (a b c : List TableVerdict) → times v (a ++ (b ++ c)) ≡ times v a + (times v b + times v c)
three v a b c = omega (arith, times-append v a (b ++ c), times-append v b c)

some : (b : Bool) → 0 < bit b → b ≡ true
some true h = refl
some false h = absurd (omega arith)

module _ (s : Net) (res : Reserved) where
  barred-times : (k i : ℕ) → times (barred k i) (faults s res) ≡ bit (ltb k s.width && (ltb i s.cells && barred_by s res k i))
  barred-times k i =
      let v = barred k i in
      let other = times_none v (clashes_all s res) s.width (λ l. times_none v (clashes_with s res l) s.cells
      (λ a. none_of v (clash_by s res l a) (clash l a) s.cells (λ c. refl))) in
      let counts = none_of v (wrong_in s res) (λ j. wrong j (count (res j) s.width)) s.cells (λ j. refl) in
      let cells : times v (barred_all s res k) ≡ bit (ltb i s.cells && barred_by s res k i) =
      one_of_holds v (barred_by s res k) (barred k) i s.cells (λ j q. rw (itself k) (ne_eqb i j (λ e. q (sym e))))
      ∙ rw (itself k, itself i, and-true (barred_by s res k i)) in
      let mine : times v (in_turn (barred_all s res) s.width) ≡ bit (ltb k s.width && (ltb i s.cells && barred_by s res k i)) =
      times-one v (barred_all s res) k s.width (λ l q. none_of v (barred_by s res l) (barred l) s.cells (λ j. unlike k l (eqb i j) q))
      ∙ ap (λ (x : ℕ). pick (ltb k s.width) x 0) cells ∙ within (ltb k s.width) _ in
      omega (arith, three v (in_turn (barred_all s res) s.width) (in_turn (clashes_all s res) s.width) (wrong_all s res), mine, other, counts)

  clash-times : (k a c : ℕ)
      → times (clash k a c) (faults s res) ≡ bit (ltb k s.width && (ltb a s.cells && (ltb c s.cells && clash_by s res k a c)))
  clash-times k a c =
      let v = clash k a c in
      let other = times_none v (barred_all s res) s.width (λ l. none_of v (barred_by s res l) (barred l) s.cells (λ j. refl)) in
      let counts = none_of v (wrong_in s res) (λ j. wrong j (count (res j) s.width)) s.cells (λ j. refl) in
      let seconds : times v (clashes_with s res k a) ≡ bit (ltb c s.cells && clash_by s res k a c) =
      one_of_holds v (clash_by s res k a) (clash k a) c s.cells (λ j q. rw (itself k, itself a) (ne_eqb c j (λ e. q (sym e))))
      ∙ rw (itself k, itself a, itself c, and-true (clash_by s res k a c)) in
      let firsts : times v (clashes_all s res k) ≡ bit (ltb a s.cells && (ltb c s.cells && clash_by s res k a c)) =
      times-one v (clashes_with s res k) a s.cells
      (λ x q. none_of v (clash_by s res k x) (clash k x) s.cells (λ j. rw (itself k) (unlike a x (eqb c j) q)))
      ∙ ap (λ (x : ℕ). pick (ltb a s.cells) x 0) seconds ∙ within (ltb a s.cells) _ in
      let mine : times v (in_turn (clashes_all s res) s.width) ≡ bit (ltb k s.width && (ltb a s.cells && (ltb c s.cells && clash_by s res k a c))) =
      times-one v (clashes_all s res) k s.width
      (λ l q. times_none v (clashes_with s res l) s.cells
      (λ x. none_of v (clash_by s res l x) (clash l x) s.cells (λ j. unlike k l (eqb a x && eqb c j) q)))
      ∙ ap (λ (x : ℕ). pick (ltb k s.width) x 0) firsts ∙ within (ltb k s.width) _ in
      omega (arith, three v (in_turn (barred_all s res) s.width) (in_turn (clashes_all s res) s.width) (wrong_all s res), mine, other, counts)

  wrong-times : (i n : ℕ) → times (wrong i n) (faults s res) ≡ bit (ltb i s.cells && (wrong_in s res i && eqb n (count (res i) s.width)))
  wrong-times i n =
      let v = wrong i n in
      let bars = times_none v (barred_all s res) s.width (λ l. none_of v (barred_by s res l) (barred l) s.cells (λ j. refl)) in
      let other = times_none v (clashes_all s res) s.width (λ l. times_none v (clashes_with s res l) s.cells
      (λ a. none_of v (clash_by s res l a) (clash l a) s.cells (λ c. refl))) in
      let mine : times v (wrong_all s res) ≡ bit (ltb i s.cells && (wrong_in s res i && eqb n (count (res i) s.width))) =
      one_of_holds v (wrong_in s res) (λ j. wrong j (count (res j) s.width)) i s.cells (λ j q. unlike i j _ q) ∙ rw (itself i) in
      omega (arith, three v (in_turn (barred_all s res) s.width) (in_turn (clashes_all s res) s.width) (wrong_all s res), mine, bars, other)

  none-valid : times valid (faults s res) ≡ 0
  none-valid =
      let bars = times_none valid (barred_all s res) s.width (λ l. none_of valid (barred_by s res l) (barred l) s.cells (λ j. refl)) in
      let other =
      times_none valid (clashes_all s res) s.width (λ l. times_none valid (clashes_with s res l) s.cells
      (λ a. none_of valid (clash_by s res l a) (clash l a) s.cells (λ c. refl))) in
      let counts = none_of valid (wrong_in s res) (λ j. wrong j (count (res j) s.width)) s.cells (λ j. refl) in
      omega (arith, three valid (in_turn (barred_all s res) s.width) (in_turn (clashes_all s res) s.width) (wrong_all s res), bars, other, counts)

  pub faults-once : (v : TableVerdict) → FaultOf s res v → times v (faults s res) ≡ 1
  unfolding barred_by clash_by wrong_in
  faults-once valid f = absurd f
  faults-once (barred k i) f = barred-times k i ∙ rw (lt-ltb k s.width f.within, lt-ltb i s.cells f.inside, f.closed, f.held)
  faults-once (clash k a c) f =
      let up : a < c = f.rising in
      let most : c < s.cells = f.inside in
      clash-times k a c
      ∙ rw (lt-ltb k s.width f.within, lt-ltb a s.cells (omega arith), lt-ltb c s.cells most, lt-ltb a c up, f.one, f.other, f.far)
  faults-once (wrong i n) f = wrong-times i n ∙ rw (lt-ltb i s.cells f.inside, ne_eqb _ _ f.differs, eq-eqb _ _ f.counted)

  pub faults-only : (v : TableVerdict) → 0 < times v (faults s res) → FaultOf s res v
  unfolding barred_by clash_by wrong_in
  faults-only valid h = absurd (omega (arith, none-valid))
  faults-only (barred k i) h =
      let x = both (ltb k s.width) _ (some _ (rw (barred-times k i) at h)) in
      let y = both (ltb i s.cells) _ x.1 in
      let z = both (not (s.usable k)) (res i k) y.1 in
      record { inside = ltb-true _ _ y.0; within = ltb-true _ _ x.0; held = z.1; closed = not-true _ z.0 }
  faults-only (clash k a c) h =
      let x = both (ltb k s.width) _ (some _ (rw (clash-times k a c) at h)) in
      let y = both (ltb a s.cells) _ x.1 in
      let z = both (ltb c s.cells) _ y.1 in
      let u = both (ltb a c) _ z.1 in
      let o = both (res a k) _ u.1 in
      let r = both (res c k) (s.clash a c) o.1 in
      record { rising = ltb-true _ _ u.0; inside = ltb-true _ _ z.0; within = ltb-true _ _ x.0; far = r.1; one = o.0; other = r.0 }
  faults-only (wrong i n) h =
      let x = both (ltb i s.cells) _ (some _ (rw (wrong-times i n) at h)) in
      let y = both (not (eqb (count (res i) s.width) (s.load i))) _ x.1 in
      record { inside = ltb-true _ _ x.0; counted = eqb-true _ _ y.1; differs = eqb-false _ _ (not-true _ y.0) }

  with-length : (k : ℕ) → length (clashes_all s res k) ≡ sum (λ a. count (clash_by s res k a) s.cells) s.cells
  with-length k =
      turn-length (clashes_with s res k) s.cells
      ∙ sum-eq _ _ s.cells (λ a l. passed_length (clash_by s res k a) (clash k a) s.cells)

  pub faults-length : length (faults s res)
      ≡ sum (λ k. count (barred_by s res k) s.cells) s.width
      + (sum (λ k. sum (λ a. count (clash_by s res k a) s.cells) s.cells) s.width + count (wrong_in s res) s.cells)
  faults-length =
      let bars : length (in_turn (barred_all s res) s.width) ≡ sum (λ k. count (barred_by s res k) s.cells) s.width =
      turn-length (barred_all s res) s.width ∙ sum-eq _ _ s.width (λ k l. passed_length (barred_by s res k) (barred k) s.cells) in
      let clashes : length (in_turn (clashes_all s res) s.width) ≡ sum (λ k. sum (λ a. count (clash_by s res k a) s.cells) s.cells) s.width =
      turn-length (clashes_all s res) s.width ∙ sum-eq _ _ s.width (λ k l. with-length k) in
      let counts = passed_length (wrong_in s res) (λ i. wrong i (count (res i) s.width)) s.cells in
      omega (
        arith,
        length-append (in_turn (barred_all s res) s.width) (in_turn (clashes_all s res) s.width ++ wrong_all s res),
        length-append (in_turn (clashes_all s res) s.width) (wrong_all s res),
        bars,
        clashes,
        counts,
      )
