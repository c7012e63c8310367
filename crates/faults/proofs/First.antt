-- The first fault of the list is the checker's verdict, and the list is empty exactly where the table is valid. The front of lists in turn is that of the
-- first list that is not empty, and each test of the verdict says of one list whether it is.
--     faults-first     the front is the verdict
--     faults-none, none-faults      no fault exactly where the table is valid
-- Assumes nothing.
use mathlib.Core.Path.{◌≡◌, sym, ap, ◌∙◌}
use mathlib.Core.Bool.{Bool, true, false, not, ◌&&◌, true≢false, and_comm}
use mathlib.Core.List.{[], ◌∷◌, ◌++◌}
use Prim.Native.Nat.{ℕ, ◌+◌, ◌≤◌, ◌<◌, zero-le}
use native.Mathlib.Omega.{arith}
use lib.Dec.{ltb, eqb}
use borrow.Author.Tests.{ltb-true, ltb-false, lt-ltb, le-ltb, eq-eqb, not-true}
use Rattle.laws.specs.Choice.{pick}
use Rattle.laws.specs.Search.{first}
use Rattle.laws.specs.Sum.{count}
use Rattle.laws.proofs.Choice.{refute, both, both_is, at_least}
use Rattle.laws.proofs.Search.{first-before, first-skip, first-same}
use Rattle.theory.specs.Net.{Net, Reserved, Valid}
use Rattle.theory.specs.Verdict.{TableVerdict, valid, barred, clash, wrong, holder_at, barred_at, lowest_barred, open_verdict}
use Rattle.theory.specs.Verdict.{second_at, clashes_at, first_at, lowest_clash, wrong_in, lowest_wrong, table_verdict}
use Rattle.theory.proofs.TableLaws.{check-valid}
use Rattle.faults.specs.Faults.{in_turn, barred_by, clash_by, barred_all, clashes_with, clashes_all, wrong_all, faults}
use Rattle.faults.specs.Means.{front_or}
use Rattle.faults.proofs.InTurn.{turn-none, front-append, front-turn, front-passed}

off : (x y : Bool) → x ≡ false → (x && y) ≡ false
off x y e = rw e

module _ (s : Net) (res : Reserved) where
  -- ---- 22

  bars-none : (k : ℕ) → k < s.width → barred_at s res k ≡ false → barred_all s res k ≡ []
  unfolding barred_at barred_by holder_at
  bars-none k l e = turn-none _ s.cells (λ i m. rw (no i m))
    where
      no : (i : ℕ) → i < s.cells → (not (s.usable k) && res i k) ≡ false
      no i m =
          refute _ (λ h.
          let x = both (not (s.usable k)) (res i k) h in
          let low : holder_at s res k ≤ i =
          at_least (holder_at s res k) i (λ q. true≢false (sym x.1 ∙ first-before (λ j. res j k) 0 s.cells i zero-le q)) in
          true≢false (sym (both_is _ _ x.0 (lt-ltb (holder_at s res k) s.cells (omega arith))) ∙ e))

  bars-front : (k : ℕ) → k < s.width → barred_at s res k ≡ true → (d : TableVerdict) → front_or d (barred_all s res k) ≡ barred k (holder_at s res k)
  unfolding barred_at barred_by holder_at
  bars-front k l e d =
      let x = both (not (s.usable k)) (ltb (holder_at s res k) s.cells) e in
      let held : first (λ i. not (s.usable k) && res i k) 0 s.cells ≡ first (λ i. res i k) 0 s.cells =
      first-same (λ i. not (s.usable k) && res i k) (λ i. res i k) 0 s.cells zero-le (λ j m n. rw x.0) in
      front-passed (λ i. not (s.usable k) && res i k) (barred k) s.cells d ∙ rw (held, x.1)

  -- ---- 6

  -- the search for a second cell may begin at the first cell
  second_is : (k a : ℕ) → a < s.cells → res a k ≡ true → first (clash_by s res k a) 0 s.cells ≡ second_at s res k a
  unfolding clash_by second_at
  second_is k a l held =
      first-skip (clash_by s res k a) 0 (a + 1) s.cells zero-le (omega arith) (λ j m n. off _ _ (le-ltb a j (omega arith)))
      ∙ first-same (clash_by s res k a) (λ c. s.clash a c && res c k) (a + 1) s.cells (omega arith)
      (λ j m n. rw (lt-ltb a j (omega arith), held) (and_comm (res j k) (s.clash a j)))

  with_none : (k a : ℕ) → a < s.cells → clashes_at s res k a ≡ false → clashes_with s res k a ≡ []
  unfolding clashes_at clash_by second_at
  with_none k a l e = turn-none _ s.cells (λ c m. rw (no c m))
    where
      no : (c : ℕ) → c < s.cells → (ltb a c && (res a k && (res c k && s.clash a c))) ≡ false
      no c m =
          refute _ (λ h.
          let x = both (ltb a c) _ h in
          let y = both (res a k) _ x.1 in
          let z = both (res c k) (s.clash a c) y.1 in
          let up : a < c = ltb-true a c x.0 in
          let low : second_at s res k a ≤ c =
          at_least (second_at s res k a) c (λ q.
          true≢false (sym (both_is _ _ z.1 z.0) ∙ first-before (λ c. s.clash a c && res c k) (a + 1) s.cells c (omega arith) q)) in
          true≢false (sym (both_is _ _ y.0 (lt-ltb (second_at s res k a) s.cells (omega arith))) ∙ e))

  with-front : (k a : ℕ) → a < s.cells → clashes_at s res k a ≡ true → (d : TableVerdict) → front_or d (clashes_with s res k a) ≡ clash k a
      (second_at s res k a)
  unfolding clashes_at
  with-front k a l e d =
      let x = both (res a k) (ltb (second_at s res k a) s.cells) e in
      front-passed (clash_by s res k a) (clash k a) s.cells d ∙ rw (second_is k a l x.0, x.1)

  clashes-none : (k : ℕ) → k < s.width → ltb (first_at s res k) s.cells ≡ false → clashes_all s res k ≡ []
  unfolding first_at
  clashes-none k l e =
      let far : s.cells ≤ first_at s res k = ltb-false _ _ e in
      turn-none (clashes_with s res k) s.cells (λ a m. with_none k a m (first-before (clashes_at s res k) 0 s.cells a zero-le (omega arith)))

  clashes-front : (k : ℕ) → k < s.width → ltb (first_at s res k) s.cells ≡ true → (d : TableVerdict)
      → front_or d (clashes_all s res k) ≡ clash k (first_at s res k) (second_at s res k (first_at s res k))
  unfolding first_at
  clashes-front k l e d =
      front-turn (clashes_with s res k) (clashes_at s res k) (λ a. clash k a (second_at s res k a)) s.cells (with_none k) (with-front k) d ∙ rw e

  -- ---- all of them

  front-wrong : front_or valid (wrong_all s res)
      ≡ pick (ltb (lowest_wrong s res) s.cells) (wrong (lowest_wrong s res) (count (res (lowest_wrong s res)) s.width)) valid
  unfolding lowest_wrong
  front-wrong = front-passed (wrong_in s res) (λ i. wrong i (count (res i) s.width)) s.cells valid

  front-open : front_or valid (in_turn (clashes_all s res) s.width ++ wrong_all s res) ≡ open_verdict s res
  unfolding open_verdict lowest_clash
  front-open =
      front-append valid (in_turn (clashes_all s res) s.width) (wrong_all s res)
      ∙ front-turn (clashes_all s res) (λ k. ltb (first_at s res k) s.cells) (λ k. clash k (first_at s res k) (second_at s res k (first_at s res k)))
      s.width clashes-none clashes-front (front_or valid (wrong_all s res))
      ∙ ap (λ (x : TableVerdict). pick (ltb (lowest_clash s res) s.width) (clash (lowest_clash s res) (first_at s res (lowest_clash s res))
      (second_at s res (lowest_clash s res) (first_at s res (lowest_clash s res)))) x) front-wrong

  pub faults-first : front_or valid (faults s res) ≡ table_verdict s res
  unfolding table_verdict lowest_barred
  faults-first =
      front-append valid (in_turn (barred_all s res) s.width) (in_turn (clashes_all s res) s.width ++ wrong_all s res)
      ∙ front-turn (barred_all s res) (barred_at s res) (λ k. barred k (holder_at s res k)) s.width bars-none bars-front
      (front_or valid (in_turn (clashes_all s res) s.width ++ wrong_all s res))
      ∙ ap (λ (x : TableVerdict). pick (ltb (lowest_barred s res) s.width) (barred (lowest_barred s res) (holder_at s res (lowest_barred s res))) x) front-open

  pub faults-none : faults s res ≡ [] → Valid s res
  faults-none e = check-valid s res (sym faults-first ∙ ap (front_or valid) e)

  pub none-faults : Valid s res → faults s res ≡ []
  unfolding barred_by clash_by wrong_in
  none-faults v =
      rw (
        turn-none (barred_all s res) s.width (λ k l. turn-none _ s.cells (λ i m. rw (open_at k i l m))),
        turn-none (clashes_all s res) s.width
            (λ k l. turn-none (clashes_with s res k) s.cells (λ a m. turn-none _ s.cells (λ c n. rw (apart-at k a c l n)))),
        turn-none (λ i. pick (not (eqb (count (res i) s.width) (s.load i))) (wrong i (count (res i) s.width) ∷ []) []) s.cells
            (λ i m. rw (eq-eqb _ _ (v.exact i m))),
      )
    where
      open_at : (k i : ℕ) → k < s.width → i < s.cells → (not (s.usable k) && res i k) ≡ false
      open_at k i l m =
          refute _ (λ h. let x = both (not (s.usable k)) (res i k) h in true≢false (sym (v.allowed i k m l x.1) ∙ not-true _ x.0))

      apart-at : (k a c : ℕ) → k < s.width → c < s.cells → (ltb a c && (res a k && (res c k && s.clash a c))) ≡ false
      apart-at k a c l n =
          refute _ (λ h.
          let x = both (ltb a c) _ h in
          let y = both (res a k) _ x.1 in
          let z = both (res c k) (s.clash a c) y.1 in
          v.apart a c k (ltb-true a c x.0) n l z.1 y.0 z.0)
