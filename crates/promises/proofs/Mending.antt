-- W7, over the public calls and in the document's numbers: what a fitter may rely on who mends a table from another planner.
-- Crate `mender` proves what its answers mean and crate `mending` what the rule gives; here they stand beside the checker and the judges. Assumes nothing.
use mathlib.Core.Path.{◌≡◌, refl, sym, ap, ◌∙◌}
use mathlib.Core.Bool.{Bool, true, false, ◌&&◌, not}
use mathlib.Core.List.{List, [], ◌∷◌}
use mathlib.Core.Logic.{◌⊎◌, inl, inr, ⊎_elim}
use Prim.Native.Nat.{ℕ, ◌+◌, ◌*◌, ◌≤◌, ◌<◌}
use native.Mathlib.Omega.{arith}
use lib.Dec.{ltb}
use lib.ListN.{length, take, drop}
use borrow.Author.Tests.{ltb-true, ltb-false}
use lib.Seq.{sets}
use Rattle.std.specs.Prelude.{Ok, Err}
use Rattle.laws.specs.Choice.{Rising}
use Rattle.laws.specs.Sum.{bit, count}
use Rattle.laws.proofs.Any.{any-eq}
use Rattle.laws.proofs.Choice.{cases, both, both_is}
use Rattle.laws.proofs.Sums.{sum-eq}
use Rattle.laws.proofs.Stores.{take-sets}
use Rattle.theory.specs.Net.{taken, free}
use Rattle.theory.specs.Greedy.{reserved}
use Rattle.theory.specs.Named.{Fails}
use Rattle.theory.proofs.Run.{is-planned}
use Rattle.theory.proofs.Exact.{covers-loaded}
use Rattle.site.specs.Record.{positions, size, load_at, fault_of}
use Rattle.site.specs.Reach.{is_open, net_of}
use Rattle.site.specs.declared.Site.{Site}
use Rattle.site.specs.declared.Fault.{Fault}
use Rattle.site.specs.Given.{fault_given}
use Rattle.judges.specs.Judges.{counted, load_answer, chain_answer, class_answer}
use Rattle.judges.specs.Given.{load_given, chain_given, class_given}
use Rattle.checker.specs.Check.{check_answer}
use Rattle.checker.specs.Given.{check_given}
use Rattle.mending.specs.Mend.{stand, overlay}
use Rattle.mending.specs.Changes.{changed, change_entry, changes, change_count, follow}
use Rattle.mending.proofs.Changes as list
use Rattle.mending.proofs.Overlay.{overlay-length, overlay-reserved}
use Rattle.mending.proofs.Mended as rule
use Rattle.mender.specs.Mend.{mend_answer, mend_table, mend_list, list_room}
use Rattle.mender.specs.Given.{mend_given}
use Rattle.mender.specs.declared.MendError.TheVariants.{NoRoom, ListShort}
use Rattle.mender.proofs.Given.{mend-apart}
use Rattle.mender.proofs.Meaning as means
use Rattle.mender.proofs.Ends.{refused-ends, short-ends}
use Rattle.mender.proofs.Room.{any-room}
use Rattle.say_changes.specs.Said.{changes_said, all_said}
use Rattle.say_changes.proofs.Said.{said_all}
use Rattle.demanded.specs.Numbers.{done, done_with, refused}
use Rattle.demanded.specs.Demands.{Accepted, LongEnough}
use Rattle.demanded.proofs.Numbers.{accepted-number}
use Rattle.demanded.proofs.Demand2.{check-is-valid, load-is-C1, judge-is-nested}
use Rattle.demanded.proofs.Demand3.{chained-nested}

no_more : (b : Bool) → not b ≡ true → b ≡ false
no_more true e = sym e
no_more false e = refl

module _ (s : Site) (u l : List ℕ) where
  -- the call gives back 0 and n
  abbrev pub MendedBy : ℕ → Type 0
  MendedBy n = mend_given (mend_answer s u l) ≡ done_with (n ∷ [])

  done-number : (n : ℕ) → MendedBy n → mend_answer s u l ≡ Ok n
  done-number n e = mend-apart (mend_answer s u l) (Ok n) e

  went : (n : ℕ) → MendedBy n → means.Mended s u l n
  went n e = means.done-means s u l n (done-number n e)

  mended-long : (n : ℕ) → MendedBy n → length (mend_table s u l) ≡ length u
  mended-long n e = let d = went n e in ap length d.table ∙ overlay-length d.stands u

  -- The mended table is valid (the checker says so).
  pub mended-checks : (n : ℕ) → MendedBy n → check_given (check_answer s (mend_table s u l)) ≡ done
  mended-checks n e =
      let d = went n e in
      (check-is-valid s (mend_table s u l)).1 (
        (accepted-number s).1 d.fine,
        omega (arith, d.long, mended-long n e),
        means.done-valid s u l n (done-number n e),
      )

  -- "a valid table yields no change": with a list of any length, and byte for byte
  pub valid-unchanged : check_given (check_answer s u) ≡ done → MendedBy 0 × (mend_table s u l ≡ u) × (mend_list s u l ≡ l)
  valid-unchanged e =
      let v = (check-is-valid s u).0 e in
      let r = rule.valid-mends (net_of s) u v.2 in
      let a = means.means-done s u l ((accepted-number s).0 v.0) v.1 r.table r.mends (omega (arith, r.number)) in
      let is : mend_answer s u l ≡ Ok 0 = a ∙ ap Ok r.number in
      let d = means.done-means s u l 0 is in
      let same : d.stands ≡ r.table = is-planned d.stands r.table (sym d.mends ∙ r.mends) in (
        ap mend_given is,
        d.table ∙ ap (λ t. overlay t u) same ∙ r.bytes,
        d.list ∙ ap (λ t. sets l 0 (changes (reserved (positions s) t) (reserved (positions s) u) (positions s) s.cells)) same ∙ ap (sets l 0) r.none,
      )

  -- on a nested site only then
  pub mended-only : class_given (class_answer s) ≡ done → (n : ℕ) → MendedBy n → load_given (load_answer s) ≡ done
  mended-only e n m =
      let d = went n m in
      let c = (judge-is-nested s).0 e in
      (load-is-C1 s).1 (
        (accepted-number s).1 d.fine,
        rule.mends-test (net_of s) u (counted s) (covers-loaded (net_of s)) c.1 d.stands d.mends,
      )

  -- "and on a chained site only then"
  pub mended-chained : chain_given (chain_answer s) ≡ done → (n : ℕ) → MendedBy n → load_given (load_answer s) ≡ done
  mended-chained e = mended-only (chained-nested s e)

  -- "all, 5 too, leave table and list untouched"
  pub refused-untouched : ((mend_given (mend_answer s u l)).number ≡ 0 → ⊥) → (mend_table s u l ≡ u) × (mend_list s u l ≡ l)
  refused-untouched h = means.untouched s u l (λ n e. h (ap (λ a. (mend_given a).number) e))

  -- "1 to 4": the record's fault, whatever is lent; then 4, where the table is short
  pub fault-of-mend : (f : Fault) → fault_of s ≡ Err f → mend_given (mend_answer s u l) ≡ fault_given f
  fault-of-mend f e = ap mend_given (sym (refused-ends s u l f e).0)

  pub four-of-mend : Accepted s → length u < size s → mend_given (mend_answer s u l) ≡ refused 4 []
  four-of-mend ok h = ap mend_given (sym (short-ends s u l ((accepted-number s).0 ok) h).0)

  -- "then 5": the first cell whose load can't be met
  pub five-of-mend : (cell short : ℕ) → mend_given (mend_answer s u l) ≡ refused 5 (cell ∷ short ∷ [])
      → (k : ℕ) × ((cell ≡ k + 1) × Fails (net_of s) (stand (net_of s) u) s.cells k short)
  five-of-mend cell short e = (means.short-means s u l cell short (mend-apart (mend_answer s u l) (Err (NoRoom cell short)) e)).2

  -- "then 13 with the number of changes if the list is too short": a list of four times that many is long enough
  pub thirteen-of-mend : (n : ℕ) → mend_given (mend_answer s u l) ≡ refused 13 (n ∷ [])
      → (length l < 4 * n) × ((m : List ℕ) → 4 * n ≤ length m → mend_given (mend_answer s u m) ≡ done_with (n ∷ []))
  thirteen-of-mend n e =
      let w = means.list-means s u l n (mend-apart (mend_answer s u l) (Err (ListShort n)) e) in
      let r = w.2.1 in (
        r.2,
        λ m h. ap mend_given (means.means-done s u m w.0 w.1 w.2.0 r.0 (omega (arith, r.1)) ∙ ap Ok (sym r.1)),
      )

  -- ---- the list

  module _ (n : ℕ) (e : MendedBy n) where
    abbrev d : means.Mended s u l n
    d = went n e

    abbrev is : ℕ → ℕ → Bool
    is = reserved (positions s) (mend_table s u l)

    abbrev was : ℕ → ℕ → Bool
    was = reserved (positions s) u

    fits : s.cells * positions s ≤ length u
    fits = d.long

    now-is : (i k : ℕ) → i < s.cells → k < positions s → reserved (positions s) d.stands i k ≡ is i k
    now-is i k h w =
        sym (ap (λ t. reserved (positions s) t i k) d.table
        ∙ overlay-reserved s.cells (positions s) d.stands u (rule.mend-size (net_of s) u d.stands d.mends) fits i k h w)

    -- the list is the changes from the old table to the new one, and "Entries past the last change stay"
    pub list-is : mend_list s u l ≡ sets l 0 (changes (reserved (positions s) (mend_table s u l)) (reserved (positions s) u) (positions s) s.cells)
    list-is =
        d.list
        ∙ ap (sets l 0) (list.changes-cong (reserved (positions s) d.stands) is was was (positions s) s.cells now-is (λ i k _ _. refl))

    -- there are n of them
    pub list_counts : n ≡ change_count (reserved (positions s) (mend_table s u l)) (reserved (positions s) u) (positions s) s.cells
    list_counts =
        d.number ∙ list.number-cong (reserved (positions s) d.stands) is was was (positions s) s.cells now-is (λ i k _ _. refl)

    listed-are : take (4 * n) (mend_list s u l) ≡ changes is was (positions s) s.cells
    listed-are =
        ap (take (4 * n)) list-is
        ∙ take-sets (4 * n) (changes is was (positions s) s.cells) l
        (list.changes-length is was (positions s) s.cells ∙ ap (λ m. 4 * m) (sym list_counts)) d.room

    -- the changes listed, laid over the old table, give the new one
    pub list-gives : follow (positions s) (take (4 * n) (mend_list s u l)) u ≡ mend_table s u l
    list-gives =
        ap (λ z. follow (positions s) z u) (listed-are ∙ sym (list.changes-cong (reserved (positions s) d.stands) is was was (positions s) s.cells now-is
        (λ i k _ _. refl)))
        ∙ rule.mended-follows (net_of s) u d.stands d.mends
        ∙ sym d.table

    -- a change at cell i and position k stands in the list, at its number
    pub list-has : (i k : ℕ) → i < s.cells → k < positions s → changed (reserved (positions s) (mend_table s u l)) (reserved (positions s) u) i k ≡ true
        → take 4 (drop (4 * list.place is was (positions s) i k) (take (4 * n) (mend_list s u l))) ≡ change_entry (is i k) (was i k) i k
    list-has i k h w c = ap (λ z. take 4 (drop (4 * list.place is was (positions s) i k) z)) listed-are
        ∙ list.changes-at is was (positions s) s.cells i k h w c

    -- and each of its n entries is a change: no entry says that nothing changed
    pub list-only : (m : ℕ) → m < n
        → (i : ℕ) × (k : ℕ) × (i < s.cells) × (k < positions s) × (is i k ≡ not (was i k)) × (list.place is was (positions s) i k ≡ m)
    list-only m h =
        let r = list.changes-each is was (positions s) s.cells m (omega (arith, list_counts)) in
        (r.0, r.1, r.2, r.3, list.differs (was r.0 r.1) (is r.0 r.1) r.4, r.5)

    -- "by cell, then position", strictly rising
    pub list-rises : (i k j q : ℕ) → k < positions s → q < positions s → list.place is was (positions s) i k < list.place is was (positions s) j q
        → Rising i j (k < q)
    list-rises = list.changes-rise is was (positions s)

    -- each change in words: the words of the old table and the new one, slot by slot, are those of the list
    pub list-said : all_said u (mend_table s u l) s.slots s.channels s.cells ≡ changes_said s.channels (take (4 * n) (mend_list s u l))
    list-said = said_all u (mend_table s u l) s.slots s.channels s.cells ∙ sym (ap (changes_said s.channels) listed-are)

    -- ---- Least harm: a reservation of a cell on an open position is dropped only where an earlier clashing cell stands or the load is met

    taken-same : (i k : ℕ) → i < s.cells → k < positions s → taken (net_of s) (reserved (positions s) d.stands) i k ≡ taken (net_of s) is i k
    taken-same i k h w =
        any-eq (λ j. (net_of s).clash j i && reserved (positions s) d.stands j k) (λ j. (net_of s).clash j i && is j k) i
        (λ j m. ap (λ b. (net_of s).clash j i && b) (now-is j k (omega arith) w))

    pub dropped-why : (i k : ℕ) → i < s.cells → k < positions s → is_open s.blocked k ≡ true
        → reserved (positions s) u i k ≡ true → reserved (positions s) (mend_table s u l) i k ≡ false
        → (taken (net_of s) (reserved (positions s) (mend_table s u l)) i k ≡ true)
        ⊎ (load_at s i ≤ count (λ q. reserved (positions s) u i q && reserved (positions s) (mend_table s u l) i q) k)
    dropped-why i k h w a o c =
        ⊎_elim
        (λ y. inl (sym (taken-same i k h w) ∙ y))
        (λ y.
        inr (omega (
          arith,
          y,
          sum-eq (λ q. bit (was i q && reserved (positions s) d.stands i q)) (λ q. bit (was i q && is i q)) k
              (λ q m. ap (λ b. bit (was i q && b)) (now-is i q h (omega arith))),
        )))
        (rule.dropped-why (net_of s) u d.stands d.mends i k h w a o (now-is i k h w ∙ c))

    -- ---- "then add the lowest free positions": an added one is open and free, every lower one is the cell's too, and nothing that it may keep is dropped

    free-same : (i k : ℕ) → i < s.cells → k < positions s → is_open s.blocked k ≡ true → taken (net_of s) is i k ≡ false
        → free (net_of s) (reserved (positions s) d.stands) i k ≡ true
    free-same i k h w a y =
        both_is (is_open s.blocked k) (not (taken (net_of s) (reserved (positions s) d.stands) i k)) a (ap not (taken-same i k h w ∙ y))

    pub added-why : (i k : ℕ) → i < s.cells → k < positions s
        → reserved (positions s) u i k ≡ false → reserved (positions s) (mend_table s u l) i k ≡ true
        → (is_open s.blocked k ≡ true)
        × (taken (net_of s) (reserved (positions s) (mend_table s u l)) i k ≡ false)
        × ((q : ℕ) → q < k → is_open s.blocked q ≡ true → taken (net_of s) (reserved (positions s) (mend_table s u l)) i q ≡ false
        → reserved (positions s) (mend_table s u l) i q ≡ true)
        × ((q : ℕ) → q < positions s → is_open s.blocked q ≡ true → taken (net_of s) (reserved (positions s) (mend_table s u l)) i q ≡ false
        → reserved (positions s) u i q ≡ true → reserved (positions s) (mend_table s u l) i q ≡ true)
    added-why i k h w o c =
        let r = rule.added-why (net_of s) u d.stands d.mends i k h w o (now-is i k h w ∙ c) in
        let f = both (is_open s.blocked k) (not (taken (net_of s) (reserved (positions s) d.stands) i k)) r.0 in (
          f.0,
          sym (taken-same i k h w) ∙ no_more (taken (net_of s) (reserved (positions s) d.stands) i k) f.1,
          λ q m a y. sym (now-is i q h (omega arith)) ∙ r.1 q m (free-same i q h (omega arith) a y),
          λ q m a y z. sym (now-is i q h m) ∙ r.2 q m (free-same i q h m a y) z,
        )

  -- no change is said of a valid table alone: what the desk is told as `valid as it is`
  pub unchanged-valid : MendedBy 0 → check_given (check_answer s u) ≡ done
  unfolding follow
  unchanged-valid e = let same : u ≡ mend_table s u l = list-gives 0 e in ap (λ t. check_given (check_answer s t)) same ∙ mended-checks 0 e

-- ---- "With a list long enough, a table is mended whenever the load test holds": any table, whatever its bytes

module _ (s : Site) (u : List ℕ) (e : load_given (load_answer s) ≡ done) (long : LongEnough s u) where
  -- there is one number of changes: the call is done with it where the list holds four numbers for each, and answers 13 with it where it does not
  pub mend-number : (n : ℕ) × (n ≤ size s)
      × ((l : List ℕ) → (4 * n ≤ length l → MendedBy s u l n) × (length l < 4 * n → mend_given (mend_answer s u l) ≡ refused 13 (n ∷ [])))
  mend-number =
      let h = (load-is-C1 s).0 e in
      let r = means.test-number s u (counted s) (covers-loaded (net_of s)) ((accepted-number s).0 h.0) long h.1 in
      (r.0, r.1, λ l. (λ y. ap mend_given ((r.2 l).0 y), λ y. ap mend_given ((r.2 l).1 y)))

  -- a list with four numbers for each byte of the table is long enough
  pub mended-when : (l : List ℕ) → 4 * size s ≤ length l → (n : ℕ) × MendedBy s u l n
  mended-when l room = let r = mend-number in (r.0, (r.2 l).0 (omega (arith, r.1)))

  -- and 5 is never answered
  pub never-five : (l : List ℕ) → (mend_given (mend_answer s u l)).number ≡ 5 → ⊥
  never-five l five =
      let r = mend-number in
      ⊎_elim
      (λ (y : ltb (length l) (4 * r.0) ≡ true). let z = ap (λ g. g.number) ((r.2 l).1 (ltb-true _ _ y)) in omega (arith, z))
      (λ (y : ltb (length l) (4 * r.0) ≡ false). let z = ap (λ g. g.number) ((r.2 l).0 (ltb-false _ _ y)) in omega (arith, z))
      (cases (ltb (length l) (4 * r.0)))

-- mended without a list, the words are those of the list that `mend` writes where it is lent one with room for every change
pub only-said : (s : Site) (u : List ℕ) (n : ℕ) → MendedBy s u (list_room s) n → (l : List ℕ) → 4 * size s ≤ length l
    → all_said u (mend_table s u (list_room s)) s.slots s.channels s.cells ≡ changes_said s.channels (take (4 * n) (mend_list s u l))
only-said s u n e l room =
    let same = any-room s u l room in
    ap (λ t. all_said u t s.slots s.channels s.cells) same.1 ∙ list-said s u l n (ap mend_given (sym same.0) ∙ e)
