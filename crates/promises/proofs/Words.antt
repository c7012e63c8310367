-- Document 02, W6, one word for each position: over what the calls answer and leave, with any words and any table, in the documents' numbers.
-- The laws are those of crate `wordtable`, and demand 3 over the word calls is demand 3 over the byte calls, cited. Assumes nothing.
use mathlib.Core.Path.{◌≡◌, refl, sym, ap, ◌∙◌}
use mathlib.Core.Bool.{Bool, true, false}
use mathlib.Core.List.{List, [], ◌++◌}
use mathlib.Core.Logic.{◌↔◌}
use Prim.Native.Nat.{ℕ, ◌+◌, ◌*◌, ◌/◌, ◌%◌, ◌^◌, ◌<◌}
use native.Mathlib.Nat.{le_of_eq}
use native.Mathlib.Omega.{arith}
use lib.Dec.{ltb}
use lib.ListN.{length, get_or, drop, replicate, length-replicate}
use lib.Seq.{drop_at}
use borrow.Author.Tests.{ltb-false, lt-ltb}
use Rattle.std.specs.Prelude.{Result, Ok, Err}
use Rattle.laws.specs.Choice.{pick}
use Rattle.laws.specs.Part.{list_of}
use Rattle.laws.specs.Sum.{bit}
use Rattle.laws.proofs.Stores.{length-list}
use Rattle.theory.specs.Greedy.{reserved, Outcome, planned, no_room, greedy}
use Rattle.site.specs.Record.{positions, size, fault_of, is_fine, answer_with}
use Rattle.site.specs.Reach.{net_of}
use Rattle.site.specs.Given.{fault_given}
use Rattle.site.specs.declared.Site.{Site}
use Rattle.site.specs.declared.Fault.{Fault}
use Rattle.words.specs.Words.{word_at, words_of, out_words}
use Rattle.planner.specs.Plan.{plan_answer, plan_table}
use Rattle.planner.specs.Given.{plan_given}
use Rattle.judges.specs.Judges.{class_answer}
use Rattle.judges.specs.Given.{class_given}
use Rattle.checker.specs.Check.{check_answer}
use Rattle.checker.specs.Given.{check_given}
use Rattle.checker.specs.declared.CheckError.{CheckError}
use Rattle.checker.specs.declared.CheckError.TheVariants as check
use Rattle.checker.proofs.Given.{check-apart}
use Rattle.wordforms.specs.Words.{sends_at, bytes_of}
use Rattle.wordtable.specs.Plan.{plan_words_answer, plan_words}
use Rattle.wordtable.specs.Check.{check_words_answer}
use Rattle.wordtable.specs.Forms.{lent_short, form_answer, to_words, to_bytes}
use Rattle.wordtable.specs.Given.{form_given}
use Rattle.wordtable.specs.declared.FormError.TheVariants as form
use Rattle.wordforms.proofs.Rows.{bytes-long}
use Rattle.wordtable.proofs.Ways.{table-short, words-short}
use Rattle.wordtable.proofs.Same.{bytes-at, check-bytes, check-table, plan-answer-same, plan-words-are, plan-kept-long}
use Rattle.wordtable.proofs.Same.{there_and_back, back-and-there, check-above, bytes-above}
use Rattle.wordtable.proofs.Plain.{word-plain, word_low, byte-plain}
use Rattle.demanded.specs.Numbers.{done, refused}
use Rattle.promises.specs.Leaves.{PlannerLeaves, ReaderLeaves}
use Rattle.demanded.specs.Demands.{Accepted, LongEnough, WordsEnough, Easier}
use Rattle.demanded.proofs.Numbers.{accepted-number}
use Rattle.promises.proofs.Demand1.{plan-left}
use Rattle.demanded.proofs.Demand3.{demand-three-calls}

-- ---- the two forms say the same, for every record; of the refusals only 4 is about what is lent

module _ (s : Site) (words table : List ℕ) (enough : WordsEnough s words) (long : LongEnough s table) where
  -- "each gives the same answer as over the byte table, with forbidden marks gone": `plan_words` that of `plan` over a long enough
  -- table, and its words are those of that plan
  pub plan-words-same : (plan_given (plan_words_answer s words) ≡ plan_given (plan_answer s table)) ×
      (plan_words s words ≡ to_words s (plan_table s table) words)
  plan-words-same = (ap plan_given (plan-answer-same s table words long enough), plan-words-are s table words long enough)

  -- and `check_words` that of `check` over the bytes of the words, and over a table of which they are the words
  pub check-words-same : (check_given (check_words_answer s words) ≡ check_given (check_answer s (to_bytes s words table)))
      × (check_given (check_words_answer s (to_words s table words)) ≡ check_given (check_answer s table))
  check-words-same = (ap check_given (check-bytes s table words long enough), ap check_given (check-table s table words long enough))

  -- "changing form and back keeps every reservation, other bytes 0": and leaves what is past them
  pub table-there-and-back : Accepted s → (lent : List ℕ) → LongEnough s lent
      → ((i k : ℕ) → i < s.cells → k < positions s → get_or (to_bytes s (to_words s table words) lent) (i * positions s + k) 0
      ≡ bit (reserved (positions s) table i k))
      × (drop (size s) (to_bytes s (to_words s table words) lent) ≡ drop (size s) lent)
  table-there-and-back ok lent h =
      let e = there_and_back s table words long enough ((accepted-number s).0 ok) lent h in (
        λ i k l m. ap (λ (x : List ℕ). get_or x (i * positions s + k) 0) e ∙ bytes-at s.cells (positions s) (reserved (positions s) table)
            (drop (size s) lent) i k l m,
        ap (drop (size s)) e ∙ drop_at (bytes_of s.cells (positions s) (reserved (positions s) table)) (drop (size s) lent) (size s)
            (bytes-long s.cells (positions s) (reserved (positions s) table)),
      )

  -- words to bytes and back gives the words with the bits above I gone
  pub words-there-and-back : Accepted s → (lent : List ℕ) → WordsEnough s lent
      → to_words s (to_bytes s words table) lent ≡ list_of (λ k. get_or words k 0 % 2 ^ s.cells) (positions s) ++ drop (positions s) lent
  words-there-and-back ok lent h = back-and-there s table words long enough ((accepted-number s).0 ok) lent h

  -- ---- the order of words and bits, in plain arithmetic; cells and positions from 0

  module _ (ok : Accepted s) (i k : ℕ) (cell : i < s.cells) (position : k < positions s) where
    -- "one 32-bit word for each position, bit i-1 set when cell i transmits": word k has bit i exactly when the table's byte at i N + k is 1
    pub word-has : get_or (to_words s table words) k 0 / 2 ^ i % 2 ≡ 1 ↔ get_or table (i * positions s + k) 0 ≡ 1
    word-has = word-plain s table words long enough ((accepted-number s).0 ok) i k cell position

    -- of the word planner's words and the planner's bytes, too
    pub planned-has : get_or (plan_words s words) k 0 / 2 ^ i % 2 ≡ 1 ↔ get_or (plan_table s table) (i * positions s + k) 0 ≡ 1
    planned-has =
        let fine = (accepted-number s).0 ok in
        let kept = plan-kept-long s table words long enough fine in
        rw plan-words-same.1 (word-plain s (plan_table s table) words (omega (arith, kept)) enough fine i k cell position)

    -- and the byte of a table of words is that bit
    pub byte-is : get_or (to_bytes s words table) (i * positions s + k) 0 ≡ get_or words k 0 / 2 ^ i % 2
    byte-is = byte-plain s table words long enough ((accepted-number s).0 ok) i k cell position

  -- "bits above I are .. written as 0"
  pub above-written : Accepted s → (k : ℕ) → k < positions s → get_or (to_words s table words) k 0 < 2 ^ s.cells
  above-written ok = word_low s table words long enough ((accepted-number s).0 ok)

-- "bits above I are read as silence": words that are the same below I have one answer and one table
pub above-silent : (s : Site) (one other : List ℕ) → length one ≡ length other
    → ((k : ℕ) → k < positions s → get_or one k 0 % 2 ^ s.cells ≡ get_or other k 0 % 2 ^ s.cells)
    → (check_given (check_words_answer s one) ≡ check_given (check_words_answer s other)) × ((table : List ℕ) → to_bytes s one table ≡ to_bytes s other table)
above-silent s one other e same = (ap check_given (check-above s one other e same), bytes-above s one other e same)

-- ---- refusals

-- a record that is not accepted is refused with its fault, 1, 24, 2, 3 or 20, by all four, whatever is lent, and nothing is written
pub words-fault : (s : Site) (words table : List ℕ) (f : Fault) → fault_of s ≡ Err f
    → (plan_given (plan_words_answer s words) ≡ fault_given f) × (check_given (check_words_answer s words) ≡ fault_given f)
    × (form_given (form_answer s table words) ≡ fault_given f)
    × (plan_words s words ≡ words) × (to_words s table words ≡ words) × (to_bytes s words table ≡ table)
unfolding plan_words_answer check_words_answer form_answer plan_words to_words to_bytes
words-fault s words table f e = (rw e, rw e, rw e, rw e, rw e, rw e)

-- "Refusal 4 is given when fewer than N words are lent", by all four, and nothing is written
pub words-four : (s : Site) (words table : List ℕ) → Accepted s → length words < positions s
    → (plan_given (plan_words_answer s words) ≡ refused 4 []) × (check_given (check_words_answer s words) ≡ refused 4 [])
    × (form_given (form_answer s table words) ≡ refused 4 [])
    × (plan_words s words ≡ words) × (to_words s table words ≡ words) × (to_bytes s words table ≡ table)
unfolding plan_words_answer check_words_answer form_answer plan_words to_words to_bytes
words-four s words table ok h =
    let e = (accepted-number s).0 ok in
    let short : ltb (length words) (positions s) ≡ true = lt-ltb (length words) (positions s) h in
    let either : lent_short s table words ≡ true = words-short s table words h in
    (rw (e, short), rw (e, short), rw (e, either), rw (e, short), rw (e, either), rw (e, either))

-- 4 of the changes of form also where fewer than IN bytes are lent
pub forms-four : (s : Site) (words table : List ℕ) → Accepted s → length table < size s
    → (form_given (form_answer s table words) ≡ refused 4 []) × (to_words s table words ≡ words) × (to_bytes s words table ≡ table)
unfolding form_answer to_words to_bytes
forms-four s words table ok h =
    let e = (accepted-number s).0 ok in
    let either : lent_short s table words ≡ true = table-short s table words h in
    (rw (e, either), rw (e, either), rw (e, either))

-- ---- what is never written

out-long : (cells n : ℕ) (o : Outcome) → length (out_words cells n o) ≡ n
out-long cells n (planned t) = length-list (word_at cells (reserved n t)) n
out-long cells n (no_room c m) = length-replicate n 0

past : (f : Result Unit Fault) (short : Bool) (front lent : List ℕ) (n : ℕ) → length front ≡ n
    → drop n (pick (is_fine f) (pick short lent (front ++ drop n lent)) lent) ≡ drop n lent
past (Ok u) true front lent n e = refl
past (Ok u) false front lent n e = drop_at front (drop n lent) n e
past (Err f) short front lent n e = refl

-- "words past N are never written", and bytes past IN neither: for every record, and whatever is lent
pub past-untouched : (s : Site) (words table : List ℕ)
    → (drop (positions s) (plan_words s words) ≡ drop (positions s) words)
    × (drop (positions s) (to_words s table words) ≡ drop (positions s) words)
    × (drop (size s) (to_bytes s words table) ≡ drop (size s) table)
unfolding plan_words to_words to_bytes
past-untouched s words table = (
  past (fault_of s) (ltb (length words) (positions s)) (out_words s.cells (positions s) (greedy (net_of s))) words (positions s)
      (out-long s.cells (positions s) (greedy (net_of s))),
  past (fault_of s) (lent_short s table words) (words_of s.cells (positions s) (reserved (positions s) table)) words (positions s)
      (length-list (word_at s.cells (reserved (positions s) table)) (positions s)),
  past (fault_of s) (lent_short s table words) (bytes_of s.cells (positions s) (sends_at words)) table (size s)
      (bytes-long s.cells (positions s) (sends_at words)),
)

-- ---- what is lent after a call, by the number given back

-- "5 leaves N words of 0": done leaves the words past N as they were, and every other refusal all of them
pub plan-words-leaves : (s : Site) (words : List ℕ) → PlannerLeaves (positions s) words (plan_given (plan_words_answer s words)).number (plan_words s words)
unfolding plan_words_answer plan_words
plan-words-leaves s words =
    plan-left (positions s) words (out_words s.cells (positions s)) (λ _ _. refl) (fault_of s) (ltb (length words) (positions s)) (greedy (net_of s))
    (λ u _. out-long s.cells (positions s) (planned u))

form-left : (n : ℕ) (f : Result Unit Fault) (short : Bool) (front lent : List ℕ) → length front ≡ n
    → ReaderLeaves n lent (form_given (answer_with form.Record f (pick short (Err form.TableShort) (Ok tt)))).number
    (pick (is_fine f) (pick short lent (front ++ drop n lent)) lent)
form-left n (Ok u) true front lent e = record { if_done = λ _. refl; if_refused = λ _. refl }
form-left n (Ok u) false front lent e = record { if_done = λ _. drop_at front (drop n lent) n e; if_refused = λ z. absurd (z refl) }
form-left n (Err f) short front lent e = record { if_done = λ _. refl; if_refused = λ _. refl }

-- the changes of form: no refusal writes
pub forms-leave : (s : Site) (words table : List ℕ)
    → ReaderLeaves (positions s) words (form_given (form_answer s table words)).number (to_words s table words)
    × ReaderLeaves (size s) table (form_given (form_answer s table words)).number (to_bytes s words table)
unfolding form_answer to_words to_bytes
forms-leave s words table = (
  form-left (positions s) (fault_of s) (lent_short s table words) (words_of s.cells (positions s) (reserved (positions s) table)) words
      (length-list (word_at s.cells (reserved (positions s) table)) (positions s)),
  form-left (size s) (fault_of s) (lent_short s table words) (bytes_of s.cells (positions s) (sends_at words)) table
      (bytes-long s.cells (positions s) (sends_at words)),
)

-- ---- demand 3

-- words that are valid were enough
was-enough : (f : Result Unit Fault) (short : Bool) (o : Result Unit CheckError) → answer_with check.Record f (pick short (Err check.TableShort) o) ≡ Ok tt
    → short ≡ false
was-enough (Ok u) true o e = cc
was-enough (Ok u) false o e = refl
was-enough (Err f) short o e = cc

pub valid-enough : (s : Site) (words : List ℕ) → check_given (check_words_answer s words) ≡ done → WordsEnough s words
unfolding check_words_answer
valid-enough s words ok =
    ltb-false (length words) (positions s) (was-enough (fault_of s) (ltb (length words) (positions s)) _
    (check-apart (check_words_answer s words) (Ok tt) ok))

-- a table of bytes that is long enough
pub room_for : (s : Site) → LongEnough s (replicate (size s) 0)
room_for s = le_of_eq (sym (length-replicate (size s) 0))

-- "Demand 3 is then inherited": the word checker says "valid" of some words for the first site, and the word planner is done for the second
pub demand-three-words : (first second : Site) → Easier second first → class_given (class_answer second) ≡ done
    → (found : List ℕ) → check_given (check_words_answer first found) ≡ done
    → (lent : List ℕ) → WordsEnough second lent → plan_given (plan_words_answer second lent) ≡ done
demand-three-words first second easier nested found ok lent enough =
    (plan-words-same second lent (replicate (size second) 0) enough (room_for second)).0
    ∙ demand-three-calls first second easier nested (to_bytes first found (replicate (size first) 0))
    (sym (check-words-same first found (replicate (size first) 0) (valid-enough first found ok) (room_for first)).0 ∙ ok)
    (replicate (size second) 0) (room_for second)
