-- What the mender's answers mean, by the theorems on mending. The answer says which way the call went, and each way has one table and one list.
--     mend-refused       refused: the record's own fault, where it has one
--     done-means         done: record and table are good, every cell stands, the list has room; with what it leaves (done-leaves)
--     short-means        no room: the cell's shortage; before 13
--     list-means         13: record and table are good and every cell stands
--     untouched          any other answer than done leaves table and list as they were
--     done-valid         a mended table is valid
--     means-done, means-short    every cell stands: done where the list has room, else 13
--     test-number        where the load test holds, there is a number of changes, and by it a call is done or 13
-- Assumes nothing.
use mathlib.Core.Path.{◌≡◌, refl, ap, ◌∙◌, subst}
use mathlib.Core.Bool.{Bool, true, false}
use mathlib.Core.List.{List}
use mathlib.Core.Logic.{◌↔◌}
use Prim.Native.Nat.{ℕ, ◌+◌, ◌*◌, ◌≤◌, ◌<◌}
use native.Mathlib.Omega.{arith}
use borrow.Author.Tests.{ltb-true, ltb-false, le-ltb, lt-ltb}
use lib.Dec.{ltb}
use lib.ListN.{length}
use lib.Seq.{sets}
use Rattle.laws.specs.Choice.{pick}
use Rattle.theory.specs.Net.{Net, Valid, Covers, LoadTest}
use Rattle.theory.specs.Greedy.{reserved, Outcome, planned, no_room}
use Rattle.std.specs.Prelude.{Result, Ok, Err}
use Rattle.site.specs.Record.{positions, size, fault_of, is_fine, answer_with}
use Rattle.site.specs.Reach.{net_of}
use Rattle.site.proofs.PassedOn.{passed_on}
use Rattle.site.specs.declared.Site.{Site}
use Rattle.site.specs.declared.Fault.{Fault}
use Rattle.theory.specs.Named.{Fails}
use Rattle.theory.proofs.Run.{run-fails}
use Rattle.mending.specs.Mend.{stand, mend, overlay}
use Rattle.mending.proofs.Changes.{few-changes}
use Rattle.mending.proofs.Mended.{mended-valid, test-mends}
use Rattle.standing.specs.Stand.{number_of}
use Rattle.mender.specs.Mend.{listed_changes, too_short, mend_answer_of, table_after, list_after, mend_answer, mend_table, mend_list}
use Rattle.mender.specs.declared.MendError.{MendError}
use Rattle.mender.specs.declared.MendError.TheVariants.{TableShort, NoRoom, ListShort, Record}
use Rattle.mender.proofs.Ends.{good-answer, good-table, good-list}

-- a call that is done, with n changes: t is what stands
pub record Mended (s : Site) (u l : List ℕ) (n : ℕ) : Type 0 where
  pub fine : fault_of s ≡ Ok tt
  pub long : size s ≤ length u
  pub stands : List ℕ
  pub mends : mend (net_of s) u ≡ planned stands
  pub number : n ≡ number_of (net_of s) u stands
  pub room : 4 * n ≤ length l
  pub table : mend_table s u l ≡ overlay stands u
  pub list : mend_list s u l ≡ sets l 0 (listed_changes (net_of s) u stands)

-- ---- the ways of a call: f is the record's fault, b whether the table is short, o what mending comes to

module _ (s : Net) (u l : List ℕ) where
  abbrev answer_by : Result Unit Fault → Bool → Outcome → Result ℕ MendError
  answer_by f b o = answer_with Record f (pick b (Err TableShort) (mend_answer_of s u l o))

  -- which way an answer was come by
  abbrev Way : Result Unit Fault → Bool → Outcome → Result ℕ MendError → Type 0
  Way f b o (Ok n) = (f ≡ Ok tt) × (b ≡ false) × ((t : List ℕ) × ((o ≡ planned t) × (n ≡ number_of s u t) × (too_short l (number_of s u t) ≡ false)))
  Way f b o (Err TableShort) = (f ≡ Ok tt) × (b ≡ true)
  Way f b o (Err (NoRoom c m)) = (f ≡ Ok tt) × (b ≡ false) × ((k : ℕ) × ((c ≡ k + 1) × (o ≡ no_room k m)))
  Way f b o (Err (ListShort n)) =
      (f ≡ Ok tt) × (b ≡ false) × ((t : List ℕ) × ((o ≡ planned t) × (n ≡ number_of s u t) × (too_short l (number_of s u t) ≡ true)))
  Way f b o (Err (Record g)) = f ≡ Err g

  by-list : (t : List ℕ) (q : Bool) → too_short l (number_of s u t) ≡ q → Way (Ok tt) false (planned t)
      (pick q (Err (ListShort (number_of s u t))) (Ok (number_of s u t)))
  by-list t true e = (refl, refl, (t, (refl, refl, e)))
  by-list t false e = (refl, refl, (t, (refl, refl, e)))

  way_of : (f : Result Unit Fault) (b : Bool) (o : Outcome) → Way f b o (answer_by f b o)
  way_of (Ok x) true o = (refl, refl)
  way_of (Ok x) false (planned t) = by-list t (too_short l (number_of s u t)) refl
  way_of (Ok x) false (no_room c m) = (refl, refl, (c, (refl, refl)))
  way_of (Err g) b o = refl

  -- no other answer than done leaves a mark
  list-kept : (q : Bool) (n : ℕ) (t x : List ℕ) → ((m : ℕ) → ◌≡◌ {A = Result ℕ MendError} (pick q (Err (ListShort n)) (Ok n)) (Ok m) → ⊥)
      → (pick q u t ≡ u) × (pick q l x ≡ l)
  list-kept true n t x h = (refl, refl)
  list-kept false n t x h = absurd (h n refl)

  kept_by : (f : Result Unit Fault) (b : Bool) (o : Outcome) → ((m : ℕ) → answer_by f b o ≡ Ok m → ⊥)
      → (pick (is_fine f) (pick b u (table_after s u l o)) u ≡ u) × (pick (is_fine f) (pick b l (list_after s u l o)) l ≡ l)
  kept_by (Ok x) true o h = (refl, refl)
  kept_by (Ok x) false (planned t) h = list-kept (too_short l (number_of s u t)) (number_of s u t) (overlay t u) (sets l 0 (listed_changes s u t)) h
  kept_by (Ok x) false (no_room c m) h = (refl, refl)
  kept_by (Err g) b o h = (refl, refl)

  no-refusal : (b : Bool) (o : Outcome) (f : Fault) → pick b (Err TableShort) (mend_answer_of s u l o) ≡ Err (Record f) → ⊥
  no-refusal true o f e = let z : ◌≡◌ {A = ℕ} 0 1 = cc in omega arith
  no-refusal false (planned t) f e = neither (too_short l (number_of s u t)) e
    where
      neither : (q : Bool) → pick q (Err (ListShort (number_of s u t))) (Ok (number_of s u t)) ≡ Err (Record f) → ⊥
      neither true e = let z : ◌≡◌ {A = ℕ} 0 1 = cc in omega arith
      neither false e = let z : ◌≡◌ {A = ℕ} 0 1 = cc in omega arith
  no-refusal false (no_room c m) f e = let z : ◌≡◌ {A = ℕ} 0 1 = cc in omega arith

-- ---- the call

module _ (s : Site) (u l : List ℕ) where
  way : (a : Result ℕ MendError) → mend_answer s u l ≡ a → Way (net_of s) u l (fault_of s) (ltb (length u) (size s)) (mend (net_of s) u) a
  unfolding mend_answer
  way a e = subst (Way (net_of s) u l (fault_of s) (ltb (length u) (size s)) (mend (net_of s) u)) e
      (way_of (net_of s) u l (fault_of s) (ltb (length u) (size s)) (mend (net_of s) u))

  -- 1, 24, 2, 3 and 20: a refusal carries the record's own fault, and a record at fault is refused
  pub mend-refused : (f : Fault) → mend_answer s u l ≡ Err (Record f) ↔ (fault_of s ≡ Err f)
  unfolding mend_answer
  mend-refused = passed_on Record (λ f g e. cc) (fault_of s) _ (no-refusal (net_of s) u l (ltb (length u) (size s)) (mend (net_of s) u))

  -- done, and what it leaves
  pub done-leaves : fault_of s ≡ Ok tt → size s ≤ length u → (t : List ℕ) → mend (net_of s) u ≡ planned t → too_short l (number_of (net_of s) u t) ≡ false
      → (mend_table s u l ≡ overlay t u) × (mend_list s u l ≡ sets l 0 (listed_changes (net_of s) u t))
  done-leaves fine long t e room = (
    good-table s u l fine long ∙ ap (table_after (net_of s) u l) e ∙ ap (λ (q : Bool). pick q u (overlay t u)) room,
    good-list s u l fine long ∙ ap (list_after (net_of s) u l) e ∙ ap (λ (q : Bool). pick q l (sets l 0 (listed_changes (net_of s) u t))) room,
  )

  pub done-means : (n : ℕ) → mend_answer s u l ≡ Ok n → Mended s u l n
  done-means n e =
      let w = way (Ok n) e in
      let t = w.2.0 in
      let h : size s ≤ length u = ltb-false (length u) (size s) w.1 in
      let r = w.2.1 in
      let left = done-leaves w.0 h t r.0 r.2 in record {
        fine = w.0;
        long = h;
        stands = t;
        mends = r.0;
        number = r.1;
        room = omega (arith, r.1, ltb-false (length l) (4 * number_of (net_of s) u t) r.2);
        table = left.0;
        list = left.1;
      }

  -- and where it is
  pub means-done : fault_of s ≡ Ok tt → size s ≤ length u → (t : List ℕ) → mend (net_of s) u ≡ planned t → 4 * number_of (net_of s) u t ≤ length l
      → mend_answer s u l ≡ Ok (number_of (net_of s) u t)
  means-done fine long t e room =
      good-answer s u l fine long
      ∙ ap (mend_answer_of (net_of s) u l) e
      ∙ ap (λ (q : Bool). pick q (Err (ListShort (number_of (net_of s) u t))) (Ok (number_of (net_of s) u t)))
      (le-ltb (length l) (4 * number_of (net_of s) u t) room)

  pub means-short : fault_of s ≡ Ok tt → size s ≤ length u → (t : List ℕ) → mend (net_of s) u ≡ planned t → length l < 4 * number_of (net_of s) u t
      → mend_answer s u l ≡ Err (ListShort (number_of (net_of s) u t))
  means-short fine long t e over =
      good-answer s u l fine long
      ∙ ap (mend_answer_of (net_of s) u l) e
      ∙ ap (λ (q : Bool). pick q (Err (ListShort (number_of (net_of s) u t))) (Ok (number_of (net_of s) u t)))
      (lt-ltb (length l) (4 * number_of (net_of s) u t) over)

  -- "then 5": the cell that is named is the first whose row leaves fragments over, and as many as are named
  pub short-means : (c m : ℕ) → mend_answer s u l ≡ Err (NoRoom c m)
      → (fault_of s ≡ Ok tt) × (size s ≤ length u) × ((k : ℕ) × ((c ≡ k + 1) × Fails (net_of s) (stand (net_of s) u) s.cells k m))
  short-means c m e =
      let w = way (Err (NoRoom c m)) e in
      let r = w.2 in
      (w.0, ltb-false (length u) (size s) w.1, (r.0, (r.1.0, run-fails (net_of s) (stand (net_of s) u) s.cells r.0 m r.1.1)))

  -- "then 13 with the number of changes if the list is too short": every cell stands
  pub list-means : (n : ℕ) → mend_answer s u l ≡ Err (ListShort n)
      → (fault_of s ≡ Ok tt) × (size s ≤ length u) × ((t : List ℕ) × ((mend (net_of s) u ≡ planned t) × (n ≡ number_of (net_of s) u t) × (length l < 4 * n)))
  list-means n e =
      let w = way (Err (ListShort n)) e in
      let r = w.2.1 in
      let over : length l < 4 * number_of (net_of s) u w.2.0 = ltb-true (length l) (4 * number_of (net_of s) u w.2.0) r.2 in
      (w.0, ltb-false (length u) (size s) w.1, (w.2.0, (r.0, r.1, omega (arith, r.1, over))))

  -- "all, 5 too, leave table and list untouched"
  pub untouched : ((n : ℕ) → mend_answer s u l ≡ Ok n → ⊥) → (mend_table s u l ≡ u) × (mend_list s u l ≡ l)
  unfolding mend_answer mend_table mend_list
  untouched h = kept_by (net_of s) u l (fault_of s) (ltb (length u) (size s)) (mend (net_of s) u) h

  pub done-valid : (n : ℕ) → mend_answer s u l ≡ Ok n → Valid (net_of s) (reserved (positions s) (mend_table s u l))
  done-valid n e =
      let d = done-means n e in
      rw d.table (mended-valid (net_of s) u d.stands d.mends d.long)

-- ---- the load test

-- one number of changes for whatever list is lent, and no more than the table has bytes
pub test-number : (s : Site) (u : List ℕ) (who : ℕ → Bool) → Covers (net_of s) who → fault_of s ≡ Ok tt → size s ≤ length u → LoadTest (net_of s) who
    → (n : ℕ) × (n ≤ size s) × ((l : List ℕ) → (4 * n ≤ length l → mend_answer s u l ≡ Ok n) × (length l < 4 * n → mend_answer s u l ≡ Err (ListShort n)))
test-number s u who covers fine long h =
    let p = test-mends (net_of s) u who covers h in (
      number_of (net_of s) u p.0,
      few-changes (reserved (positions s) p.0) (reserved (positions s) u) (positions s) s.cells,
      λ l. (means-done s u l fine long p.0 p.1, means-short s u l fine long p.0 p.1),
    )
