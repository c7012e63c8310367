-- The mender's rule is fair, so all of `Run` holds of it: a row that stands has the first of the old reservations that are free,
-- then the first of the other free positions.
--     stand-one      which positions stand
--     stand-fair     as the theory asks of a rule
--     kept-all, add-lowest    something is added only where all that may be kept is kept, and where all that is free below it stands
--     mend-short, change-count, stand-cong    what is short, how many changes there are, and that only what is free counts
-- Assumes nothing.
use mathlib.Core.Path.{◌≡◌, refl, sym, ap, ap₂, ◌∙◌}
use mathlib.Core.Bool.{Bool, true, false, ◌&&◌, ◌||◌, not, true≢false}
use mathlib.Core.List.{List}
use mathlib.Core.Logic.{⊎_elim, inr}
use Prim.Native.Nat.{ℕ, ◌+◌, ◌-◌, ◌<◌, min}
use native.Mathlib.Omega.{arith}
use native.Mathlib.Nat.{zero-add}
use lib.Dec.{ltb, eqb}
use lib.ListN.{length, get_or}
use borrow.Author.Tests.{lt-ltb, ltb-true}
use Rattle.laws.specs.Choice.{pick}
use Rattle.laws.specs.Sum.{bit, count}
use Rattle.laws.specs.Few.{first_few}
use Rattle.laws.proofs.Choice.{cases, refute, both, both_is, either_is}
use Rattle.laws.proofs.Sums.{sum-eq, sum-add, sum_below, sum-up}
use Rattle.laws.proofs.Few.{few-count, few-eq}
use Rattle.theory.specs.Net.{Net, taken, free}
use Rattle.theory.specs.Greedy.{sends, reserved, held, marked}
use Rattle.mending.specs.Keep.{keep_at, add_at, stand_at}
use Rattle.mending.specs.Changes.{differ}
use Rattle.mending.specs.Mend.{may_keep, kept_row, lacking, stand}
use Rattle.theory.proofs.Row.{marked-length, fill-length, marked-at, fill-at, unmet-count}
use Rattle.theory.proofs.Run.{Fair}

-- f is free, o an old reservation; a is among the first to be kept, b among the first to be added
parted : (f o a b : Bool) → bit ((f && o && a) || (f && not (f && o && a) && b)) ≡ bit (f && o && a) + bit (f && not (f && o && a) && b)
parted true true true b = refl
parted true true false true = refl
parted true true false false = refl
parted true false a true = refl
parted true false a false = refl
parted false o a b = refl

left_over-law : (f o a : Bool) → bit f ≡ bit (f && o && a) + bit (f && not (f && o && a))
left_over-law true true true = refl
left_over-law true true false = refl
left_over-law true false a = refl
left_over-law false o a = refl

was_free : (f o a b : Bool) → ((f && o && a) || (f && not (f && o && a) && b)) ≡ true → f ≡ true
was_free true o a b e = refl
was_free false o a b e = e

-- what is kept was reserved and what is added was not, so that a change is one of the two
one_way-law : (f o a b : Bool) → (b ≡ true → o ≡ false) → bit (differ ((f && o && a) || b) o) ≡ bit (o && not (f && o && a)) + bit b
one_way-law f true a true h = absurd (true≢false (h refl))
one_way-law true true true false h = refl
one_way-law true true false false h = refl
one_way-law false true a false h = refl
one_way-law true false a true h = refl
one_way-law true false a false h = refl
one_way-law false false a true h = refl
one_way-law false false a false h = refl

-- of those with f, keep the first l that have o, and add the first of the others until there are l
module _ (f o : ℕ → Bool) (l n : ℕ) where
  abbrev keep : ℕ → Bool
  keep = keep_at f o l n

  abbrev add : ℕ → Bool
  add = add_at f o l n

  pub mend-count : count (λ k. keep k || add k) n ≡ min l (count f n)
  mend-count =
      omega (
        arith,
        sum-eq (λ k. bit (keep k || add k)) (λ k. bit (keep k) + bit (add k)) n (λ k _. parted (f k) (o k) _ _),
        sum-add (λ k. bit (keep k)) (λ k. bit (add k)) n,
        few-count (λ k. f k && o k) l n,
        few-count (λ k. f k && not (keep k)) (l - count keep n) n,
        sum-eq (λ k. bit (f k)) (λ k. bit (keep k) + bit (f k && not (keep k))) n (λ k _. left_over-law (f k) (o k) _),
        sum-add (λ k. bit (keep k)) (λ k. bit (f k && not (keep k))) n,
      )

  abbrev other : ℕ → Bool
  other q = f q && not (keep q)

  -- something is added only where all that may be kept is kept
  pub kept-all : (k : ℕ) → add k ≡ true → (q : ℕ) → q < n → f q ≡ true → o q ≡ true → keep q ≡ true
  kept-all k e q h a b =
      let p = both (other k) (ltb (count other k) (l - count keep n)) e in
      let left = ltb-true (count other k) (l - count keep n) p.1 in
      let all : count keep n ≡ min l (count (λ z. f z && o z) n) = few-count (λ z. f z && o z) l n in
      both_is (f q && o q) (ltb (count (λ z. f z && o z) q) l) (both_is (f q) (o q) a b)
      (lt-ltb (count (λ z. f z && o z) q) l (omega (arith, sum_below (λ z. bit (f z && o z)) q n h)))

  -- so it has no o
  add-new : (k : ℕ) → k < n → add k ≡ true → o k ≡ false
  add-new k h e = refute (o k) (λ y.
      let p = both (other k) (ltb (count other k) (l - count keep n)) e in
      let q = both (f k) (not (keep k)) p.0 in
      true≢false (sym q.1 ∙ ap not (kept-all k e k h q.0 y)))

  -- and where it is, all that is free below it stands: what is added is the lowest
  pub add-lowest : (k : ℕ) → add k ≡ true → (q : ℕ) → q < k → f q ≡ true → stand_at f o l n q ≡ true
  add-lowest k e q h a = ⊎_elim (λ y. rw y) (λ y. either_is (keep q) (add q) (inr (added y))) (cases (keep q))
    where
      added : keep q ≡ false → add q ≡ true
      added y =
          let p = both (other k) (ltb (count other k) (l - count keep n)) e in
          let left = ltb-true (count other k) (l - count keep n) p.1 in
          both_is (other q) (ltb (count other q) (l - count keep n)) (both_is (f q) (not (keep q)) a (ap not y))
          (lt-ltb (count other q) (l - count keep n) (omega (arith, sum-up (λ z. bit (other z)) q k (omega arith))))

  -- what finds no room is what the load is short of all that stands
  pub mend-short : l - count keep n - count (λ k. f k && not (keep k)) n ≡ l - count (stand_at f o l n) n
  mend-short =
      omega (
        arith,
        mend-count,
        few-count (λ k. f k && o k) l n,
        sum-eq (λ k. bit (f k)) (λ k. bit (keep k) + bit (f k && not (keep k))) n (λ k _. left_over-law (f k) (o k) _),
        sum-add (λ k. bit (keep k)) (λ k. bit (f k && not (keep k))) n,
      )

  -- a change is a reservation dropped or one added
  pub change-count : count (λ k. differ (stand_at f o l n k) (o k)) n ≡ count (λ k. o k && not (keep k)) n + count add n
  change-count =
      sum-eq (λ k. bit (differ (stand_at f o l n k) (o k))) (λ k. bit (o k && not (keep k)) + bit (add k)) n
      (λ k h. one_way-law (f k) (o k) (ltb (count (λ q. f q && o q) k) l) (add k) (add-new k h))
      ∙ sum-add (λ k. bit (o k && not (keep k))) (λ k. bit (add k)) n

-- only what is free among the positions counts
module _ (f g o : ℕ → Bool) (l n : ℕ) (same : (k : ℕ) → k < n → f k ≡ g k) where
  keep-cong : (k : ℕ) → k < n → keep_at f o l n k ≡ keep_at g o l n k
  keep-cong k h = few-eq (λ q. f q && o q) (λ q. g q && o q) l k (λ q m. ap (λ b. b && o q) (same q (omega arith)))

  add_cong : (k : ℕ) → k < n → add_at f o l n k ≡ add_at g o l n k
  add_cong k h =
      let c : count (keep_at f o l n) n ≡ count (keep_at g o l n) n = sum-eq _ _ n (λ q m. ap bit (keep-cong q m)) in
      few-eq (λ q. f q && not (keep_at f o l n q)) (λ q. g q && not (keep_at g o l n q)) (l - count (keep_at f o l n) n) k
      (λ q m. ap₂ (λ a b. a && not b) (same q (omega arith)) (keep-cong q (omega arith)))
      ∙ ap (λ m. first_few (λ q. g q && not (keep_at g o l n q)) (l - m) k) c

  pub stand-cong : (k : ℕ) → k < n → stand_at f o l n k ≡ stand_at g o l n k
  stand-cong k h = ap₂ ◌||◌ (keep-cong k h) (add_cong k h)

-- ---- the bytes of a row: u usable, a taken, o old, q among the first

may-idle : (u o a : Bool) (w : ℕ) → w ≡ pick a 2 0 → (u && o && eqb w 0) ≡ (u && not a && o)
may-idle true true true w e = rw e
may-idle true true false w e = rw e
may-idle true false true w e = refl
may-idle true false false w e = refl
may-idle false o a w e = refl

kept_byte : (x : Bool) (a : Bool) (w r : ℕ) → w ≡ pick a 2 0 → r ≡ pick x 1 w → r ≡ pick x 1 (pick a 2 0)
kept_byte x a w r e h = rw e at h

still-idle : (u o a q : Bool) (r : ℕ) → r ≡ pick (u && not a && o && q) 1 (pick a 2 0) → (u && eqb r 0) ≡ (u && not a && not (u && not a && o && q))
still-idle true o true q r h = rw h
still-idle true true false true r h = rw h
still-idle true true false false r h = rw h
still-idle true false false q r h = rw h
still-idle false o a q r h = refl

stand-byte : (x y a : Bool) (w r : ℕ) → w ≡ pick x 1 (pick a 2 0) → r ≡ pick y 1 w → eqb r 1 ≡ (x || y)
stand-byte true true a w r e h = rw h
stand-byte true false a w r e h = rw (h, e)
stand-byte false true a w r e h = rw h
stand-byte false false true w r e h = rw (h, e)
stand-byte false false false w r e h = rw (h, e)

module _ (s : Net) (u t : List ℕ) (i : ℕ) where
  abbrev pub mine : ℕ → Bool
  mine = free s (reserved s.width t) i

  -- where the old row holds a reservation
  abbrev pub old : ℕ → Bool
  old = reserved s.width u i

  abbrev pub keeps : ℕ → Bool
  keeps = keep_at mine old (s.load i) s.width

  abbrev pub adds : ℕ → Bool
  adds = add_at mine old (s.load i) s.width

  abbrev m : List ℕ
  m = marked s t i i

  abbrev busy : ℕ → Bool
  busy = taken s (reserved s.width t) i

  idle : (k : ℕ) → k < s.width → (may_keep s u t i k && eqb (get_or m k 0) 0) ≡ (mine k && old k)
  idle k h = may-idle (s.usable k) (old k) (busy k) (get_or m k 0) (marked-at s t i i k h)

  kept_at : (k : ℕ) → k < s.width → get_or (kept_row s u t i) k 0 ≡ pick (keeps k) 1 (pick (busy k) 2 0)
  kept_at k h =
      let same : count (λ q. may_keep s u t i q && eqb (get_or m q 0) 0) k ≡ count (λ q. mine q && old q) k =
      sum-eq _ _ k (λ q l. ap bit (idle q (omega arith))) in
      kept_byte (keeps k) (busy k) (get_or m k 0) _ (marked-at s t i i k h)
      (rw (same, idle k h) at
      (fill-at (may_keep s u t i) 0 (s.load i) m (may_keep s u t i) (λ p. ap (may_keep s u t i) (sym (zero-add p))) k (rw marked-length h)))

  pub lacks : lacking s u t i ≡ s.load i - count keeps s.width
  lacks =
      let same : count (λ q. may_keep s u t i q && eqb (get_or m q 0) 0) s.width ≡ count (λ q. mine q && old q) s.width =
      sum-eq _ _ s.width (λ q l. ap bit (idle q l)) in
      let n = rw marked-length at (unmet-count (may_keep s u t i) 0 (s.load i) m (may_keep s u t i) (λ p. ap (may_keep s u t i) (sym (zero-add p)))) in
      omega (arith, n, same, few-count (λ k. mine k && old k) (s.load i) s.width)

  free-still : (k : ℕ) → k < s.width → (s.usable k && eqb (get_or (kept_row s u t i) k 0) 0) ≡ (mine k && not (keeps k))
  free-still k h = still-idle (s.usable k) (old k) (busy k) _ _ (kept_at k h)

  kept-length : length (kept_row s u t i) ≡ s.width
  kept-length = fill-length (may_keep s u t i) 0 (s.load i) m ∙ marked-length s t i i

  pub stand-one : (k : ℕ) → k < s.width → sends (get_or (stand s u t i) k 0) ≡ (keeps k || adds k)
  unfolding stand
  stand-one k h =
      let same : count (λ q. s.usable q && eqb (get_or (kept_row s u t i) q 0) 0) k ≡ count (λ q. mine q && not (keeps q)) k =
      sum-eq _ _ k (λ q l. ap bit (free-still q (omega arith))) in
      stand-byte (keeps k) (first_few (λ q. mine q && not (keeps q)) (lacking s u t i) k) (busy k) (get_or (kept_row s u t i) k 0) _ (kept_at k h)
      (rw (same, free-still k h) at
      (fill-at s.usable 0 (lacking s u t i) (kept_row s u t i) s.usable (λ p. ap s.usable (sym (zero-add p))) k (rw kept-length h)))
      ∙ ap (λ l. keeps k || first_few (λ q. mine q && not (keeps q)) l k) lacks

  pub stand-length : length (stand s u t i) ≡ s.width
  unfolding stand
  stand-length = fill-length s.usable 0 (lacking s u t i) (kept_row s u t i) ∙ kept-length

  stand-only : (k : ℕ) → k < s.width → sends (get_or (stand s u t i) k 0) ≡ true → mine k ≡ true
  stand-only k l h = was_free (mine k) (old k) _ _ (sym (stand-one k l) ∙ h)

  pub stand-much : held s.width (stand s u t i) ≡ min (s.load i) (count mine s.width)
  stand-much =
      sum-eq (λ k. bit (sends (get_or (stand s u t i) k 0))) (λ k. bit (keeps k || adds k)) s.width (λ k l. ap bit (stand-one k l))
      ∙ mend-count mine old (s.load i) s.width

pub stand-fair : (s : Net) (u : List ℕ) → Fair s (stand s u)
stand-fair s u = record {
  size = stand-length s u;
  only = stand-only s u;
  much = stand-much s u;
}
