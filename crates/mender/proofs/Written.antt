-- How the two calls end, once every cell has had its turn. Done: the sets give the table and the list that are left, for any list with room.
-- Not done: the answer is the same for any list, and nothing is written. Assumes nothing.
use mathlib.Core.Path.{◌≡◌, refl, sym, ap, ◌∙◌}
use mathlib.Core.Bool.{Bool, true, false, false≢true}
use mathlib.Core.List.{List, []}
use Prim.Native.Nat.{ℕ, ◌*◌, ◌≤◌, ◌<◌}
use native.Mathlib.Omega.{arith}
use borrow.Author.Tests.{le-ltb}
use lib.Dec.{ltb}
use lib.ListN.{length}
use lib.Seq.{sets}
use Rattle.laws.specs.Choice.{pick}
use Rattle.laws.specs.Bits.{bit_in}
use Rattle.theory.specs.Net.{Net}
use Rattle.theory.specs.Greedy.{Outcome, planned, no_room}
use Rattle.std.specs.Prelude.{Result, Ok, Err, is_ok}
use Rattle.site.specs.Record.{positions, size, fault_of, answer_with}
use Rattle.site.specs.Reach.{clash_of, is_open, net_in, net_by, net_of}
use Rattle.site.specs.declared.Site.{Site}
use Rattle.site.specs.declared.Fault.{Fault}
use Rattle.site.proofs.Faults.{fine-sized, few-positions, few_bytes, Sized}
use Rattle.mending.specs.Changes.{follow}
use Rattle.mending.specs.Mend.{mend, overlay}
use Rattle.mending.proofs.Changes.{changes-none}
use Rattle.standing.specs.Stand.{number_of, stood_of, stood_by, SaysBy}
use Rattle.standing.specs.declared.Short.{Short}
use Rattle.standing.specs.Sets.{stands_in, Says}
use Rattle.mender.specs.Mend.{listed_changes, mend_answer_of, mend_answer, mend_table, mend_list, list_room, MendStands, words_for}
use Rattle.changelist.specs.Sets.{all_count, listed_in, table_with, list_with, AllWithin}
use Rattle.mender.specs.declared.MendError.{MendError}
use Rattle.mender.specs.declared.MendError.TheVariants.{TableShort, NoRoom, ListShort, Record}
use Rattle.mender.proofs.Ends.{Whole, whole-of, lacking, no_room-law, refused-ends, short-ends, good-answer, both_ways-law}
use Rattle.mender.proofs.Ends.{end-within, end-number, end-table, end_list}
use Rattle.mender.proofs.Meaning.{Mended, done-means, done-leaves, means-done, means-short, untouched}
use Rattle.mender.proofs.Room.{room_for}

-- ---- done

module _ {a : Result ℕ MendError} {s : Site} {u stands old : List ℕ} (st : MendStands a s u stands old) {number : ℕ} (e : a ≡ Ok number) where
  pub mended : Mended s u (list_room s) number
  mended = done-means s u (list_room s) number (sym st.answers ∙ e)

  pub sizes : Sized s
  sizes = fine-sized s mended.fine

  abbrev whole : Whole (net_of s) u number
  whole = record { table = mended.stands; mends = mended.mends; all = mended.number }

  abbrev words : ℕ
  words = words_for (positions s)

  wide : positions s ≤ 64 * words_for (positions s)
  wide = omega arith

  says : Says s.cells (positions s) (words_for (positions s)) mended.stands u stands old
  says = st.says number e mended.stands mended.mends

  pub within : AllWithin (words_for (positions s)) s.cells (positions s) stands old
  within = end-within (net_of s) words u stands old number wide whole says

  pub number_is : number ≡ all_count (words_for (positions s)) s.cells stands old
  number_is = end-number (net_of s) words u stands old number wide whole says

  -- a list with room
  module _ (l : List ℕ) (room : 4 * number ≤ length l) where
    pub answer-done : Ok number ≡ mend_answer s u l
    answer-done =
        ap Ok mended.number ∙ sym (means-done s u l mended.fine mended.long mended.stands mended.mends (omega (arith, mended.number)))

    left : (mend_table s u l ≡ overlay mended.stands u) × (mend_list s u l ≡ sets l 0 (listed_changes (net_of s) u mended.stands))
    left =
        done-leaves s u l mended.fine mended.long mended.stands mended.mends
        (le-ltb (length l) (4 * number_of (net_of s) u mended.stands) (omega (arith, mended.number)))

    pub table_done : table_with (words_for (positions s)) s.cells (positions s) stands old u ≡ mend_table s u l
    table_done = end-table (net_of s) words u stands old number wide whole says ∙ sym left.0

    pub list_done : list_with (words_for (positions s)) s.cells stands old l ≡ mend_list s u l
    list_done = ap (sets l 0) (end_list (net_of s) words u stands old number wide whole says) ∙ sym left.1

    -- nothing changes
    pub none_done : number ≡ 0 → (u ≡ mend_table s u l) × (l ≡ mend_list s u l)
    unfolding follow
    none_done z =
        let none : listed_in words s.cells stands old ≡ [] =
        changes-none (stands_in words stands) (stands_in words old) (64 * words) s.cells (sym number_is ∙ z) in
        (sym (ap (λ (c : List ℕ). follow (positions s) c u) none) ∙ table_done, sym (ap (λ (c : List ℕ). sets l 0 c) none) ∙ list_done)

  -- a list without
  module _ (l : List ℕ) (over : length l < 4 * number) where
    pub answer-short : Err (ListShort number) ≡ mend_answer s u l
    answer-short =
        ap (λ (n : ℕ). Err (ListShort n)) mended.number
        ∙ sym (means-short s u l mended.fine mended.long mended.stands mended.mends (omega (arith, mended.number)))

    pub short-left : (u ≡ mend_table s u l) × (l ≡ mend_list s u l)
    short-left = let k = untouched s u l (λ n h. false≢true (ap is_ok (answer-short ∙ h))) in (sym k.0, sym k.1)

-- ---- not done

module _ (s : Site) (u : List ℕ) where
  -- a call by what is found of the record, whether the table is short, and what mending comes to
  abbrev answer_by : List ℕ → Result Unit Fault → Bool → Outcome → Result ℕ MendError
  answer_by l f b o = answer_with Record f (pick b (Err TableShort) (mend_answer_of (net_of s) u l o))

  same_by : (l : List ℕ) (f : Result Unit Fault) (b : Bool) (o : Outcome) → ((n : ℕ) → answer_by (list_room s) f b o ≡ Ok n → ⊥)
      → answer_by (list_room s) f b o ≡ answer_by l f b o
  same_by l (Ok x) true o h = refl
  same_by l (Ok x) false (planned t) h =
      let number = number_of (net_of s) u t in
      absurd (h number (ap (λ (q : Bool). pick q (Err (ListShort number)) (Ok number)) (le-ltb (length (list_room s)) (4 * number) (room_for s u t))))
  same_by l (Ok x) false (no_room c k) h = refl
  same_by l (Err g) b o h = refl

module _ {a : Result ℕ MendError} {s : Site} {u stands old : List ℕ} (st : MendStands a s u stands old) {r : MendError} (h : a ≡ Err r)
    (l : List ℕ) where
  not_done : (n : ℕ) → a ≡ Ok n → ⊥
  not_done n e = false≢true (ap is_ok (sym h ∙ e))

  pub answer-other : Err r ≡ mend_answer s u l
  unfolding mend_answer
  answer-other =
      sym h ∙ st.answers ∙ same_by s u l (fault_of s) (ltb (length u) (size s)) (mend (net_of s) u) (λ n e. not_done n (st.answers ∙ e))

  pub other-left : (u ≡ mend_table s u l) × (l ≡ mend_list s u l)
  other-left = let k = untouched s u l (λ n e. not_done n (h ∙ answer-other ∙ e)) in (sym k.0, sym k.1)

-- ---- what the code asks

-- the sizes of an accepted record
pub accepted_sizes : (s : Site) → fault_of s ≡ Ok tt → (s.cells ≤ 32) × (positions s ≤ 2048) × (size s ≤ 65536)
accepted_sizes s e = let z = fine-sized s e in (z.cells_most, few-positions z, few_bytes z)

-- the ways out of the cells' turns
module _ (s : Site) (u stands old : List ℕ) where
  pub refused_stands : (f : Fault) → fault_of s ≡ Err f → MendStands (Err (Record f)) s u stands old
  refused_stands f e = record {
    answers = (refused-ends s u (list_room s) f e).0;
    says = λ n h. absurd (false≢true (ap is_ok h));
  }

  pub short_stands : fault_of s ≡ Ok tt → length u < size s → MendStands (Err TableShort) s u stands old
  short_stands fine h = record {
    answers = (short-ends s u (list_room s) fine h).0;
    says = λ n e. absurd (false≢true (ap is_ok e));
  }

  module _ (rows : List ℕ) (fine : fault_of s ≡ Ok tt) (fits : size s ≤ length u) (clash : bit_in rows ≡ clash_of s) where
    net : net_by s.cells (positions s) s.loads rows (is_open s.blocked) ≡ net_of s
    net = ap (λ (f : ℕ → ℕ → Bool). net_in s.cells (positions s) s.loads f (is_open s.blocked)) clash

    pub lacking_stands : (r : Short) → Err r ≡ stood_by s.cells (positions s) s.loads rows s.blocked u → MendStands (Err (NoRoom r.0 r.1)) s u stands old
    lacking_stands r e =
        let lack = lacking (net_of s) u r (e ∙ ap (λ (x : Net). stood_of x u (mend x u)) net) in record {
          answers = no_room-law (net_of s) u (list_room s) r.0 r.1 lack ∙ sym (good-answer s u (list_room s) fine fits);
          says = λ n h. absurd (false≢true (ap is_ok h));
        }

    pub all_stands : (number : ℕ) → Ok number ≡ stood_by s.cells (positions s) s.loads rows s.blocked u
        → SaysBy s.cells (positions s) s.loads rows s.blocked u (words_for (positions s)) stands old → MendStands (Ok number) s u stands old
    all_stands number e told =
        let all = whole-of (net_of s) u number (e ∙ ap (λ (x : Net). stood_of x u (mend x u)) net) in record {
          answers = ap Ok all.all ∙ sym (means-done s u (list_room s) fine fits all.table all.mends (room_for s u all.table));
          says = λ n h t m. told t (ap (λ (x : Net). mend x u) net ∙ m);
        }

pub ruleset turns_end = (accepted_sizes, refused_stands, short_stands, lacking_stands, all_stands, both_ways-law)
