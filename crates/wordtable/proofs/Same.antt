-- The two table forms say the same. The words of a table send where the table does (`words-send`), and the bytes of words where the words do (`bytes-send`),
-- within the cells and positions of the site; the verdict and the forms look no further.
--     check-bytes, check-table      the word checker's answer is the checker's, over the bytes of the words, and over the table of which they are the words
--     plan-answer-same, plan-words-are      the word planner's answer is the planner's, and its words are those of the planner's table
--     words-say      the words of a table send where it does
--     there_and_back, back-and-there      a table changed into words and back; words changed into a table and back
--     check-above, bytes-above      bits above I do not matter
-- Assumes nothing.
use mathlib.Core.Path.{◌≡◌, refl, sym, ap, ap₂, ◌∙◌}
use mathlib.Core.Bool.{Bool, true, false, ◌||◌}
use mathlib.Core.List.{List, ◌++◌}
use mathlib.Core.Logic.{⊎_elim}
use Prim.Native.Nat.{ℕ, zero, suc, ◌+◌, ◌*◌, ◌%◌, ◌^◌, ◌≤◌, ◌<◌}
use native.Mathlib.Nat.{eq-or-lt_of_le, le_of_suc-le-suc}
use native.Mathlib.Omega.{arith}
use lib.Dec.{ltb}
use lib.ListN.{length, get_or, drop, replicate, length-append, length-drop, length-replicate, get_or-replicate, get_or-append}
use borrow.Author.Tests.{le-ltb}
use Rattle.laws.specs.Bits.{bit_at}
use Rattle.laws.specs.Choice.{pick}
use Rattle.laws.specs.Part.{list_of}
use Rattle.laws.specs.Sum.{bit}
use Rattle.laws.proofs.Grid.{inside, kept_byte, added-byte}
use Rattle.laws.proofs.Stores.{length-list, list-eq, list_at, list-zeros}
use Rattle.laws.proofs.Words.{word-bit, word-eq, word_mod, none-word}
use Rattle.theory.specs.Net.{Reserved}
use Rattle.theory.specs.Greedy.{sends, reserved, Outcome, planned, no_room, greedy}
use Rattle.theory.proofs.Agree.{verdict-agree}
use Rattle.theory.proofs.Exact.{planned-size}
use Rattle.theory.proofs.Row.{kept}
use Rattle.std.specs.Prelude.{Ok, Err}
use Rattle.site.specs.Record.{positions, size, fault_of, is_fine, answer_with}
use Rattle.site.specs.Reach.{net_of}
use Rattle.site.specs.declared.Site.{Site}
use Rattle.site.specs.declared.Fault.{Fault}
use Rattle.words.specs.Words.{word_at, words_of, out_words}
use Rattle.planner.specs.Plan.{table_of, plan_answer, plan_table}
use Rattle.planner.proofs.Answer.{run-table}
use Rattle.checker.specs.Check.{verdict_of, check_answer}
use Rattle.checker.specs.declared.CheckError.TheVariants as check
use Rattle.checker.proofs.Judged.{check-judged}
use Rattle.wordforms.specs.Words.{sends_at, bytes_of}
use Rattle.wordtable.specs.Plan.{plan_words_answer, plan_words}
use Rattle.wordtable.specs.Check.{check_words_answer}
use Rattle.wordtable.specs.Forms.{to_words, to_bytes}
use Rattle.wordtable.proofs.Judged.{words-judged}
use Rattle.wordforms.proofs.Rows.{bytes-long}
use Rattle.wordtable.proofs.Ways.{either_way, refused-words, refused-bytes, done-words, done-bytes}

-- ---- what each form says of a cell and a position

pub words-send : (cells n : ℕ) (res : Reserved) (x : List ℕ) (i k : ℕ) → i < cells → k < n → sends_at (words_of cells n res ++ x) i k ≡ res i k
words-send cells n res x i k l h =
    ap (λ (w : ℕ). bit_at w i) (get_or-append (words_of cells n res) x 0 k (omega (arith, length-list (word_at cells res) n))
    ∙ list_at (word_at cells res) n k h)
    ∙ word-bit (λ c. res c k) cells i l

-- 1 where a cell is reserved, and 0 elsewhere
row-byte : (cells n : ℕ) (res : Reserved) (i k : ℕ) → i < cells → k < n → get_or (bytes_of cells n res) (i * n + k) 0 ≡ bit (res i k)
unfolding bytes_of
row-byte zero n res i k l h = absurd (omega arith)
row-byte (suc c) n res i k l h =
    ⊎_elim
    (λ e. rw e (added-byte n (bytes_of c n res) (list_of (λ k. bit (res c k)) n) c (bytes-long c n res) k ∙ list_at (λ k. bit (res c k)) n k h))
    (λ m. kept_byte n (bytes_of c n res) (list_of (λ k. bit (res c k)) n) c (bytes-long c n res) i k m h ∙ row-byte c n res i k m h)
    (eq-or-lt_of_le (le_of_suc-le-suc l))

pub bytes-at : (cells n : ℕ) (res : Reserved) (x : List ℕ) (i k : ℕ) → i < cells → k < n → get_or (bytes_of cells n res ++ x) (i * n + k) 0 ≡ bit (res i k)
bytes-at cells n res x i k l h = kept_byte n (bytes_of cells n res) x cells (bytes-long cells n res) i k l h ∙ row-byte cells n res i k l h

one-sends : (b : Bool) → sends (bit b) ≡ b
one-sends true = refl
one-sends false = refl

pub bytes-send : (cells n : ℕ) (res : Reserved) (x : List ℕ) (i k : ℕ) → i < cells → k < n → reserved n (bytes_of cells n res ++ x) i k ≡ res i k
bytes-send cells n res x i k l h = ap sends (bytes-at cells n res x i k l h) ∙ one-sends (res i k)

words-eq : (cells n : ℕ) (res sat : Reserved) → ((i k : ℕ) → i < cells → k < n → res i k ≡ sat i k) → words_of cells n res ≡ words_of cells n sat
words-eq cells n res sat same = list-eq (word_at cells res) (word_at cells sat) n (λ k h. word-eq (λ i. res i k) (λ i. sat i k) cells (λ i l. same i k l h))

pub bytes_eq : (cells n : ℕ) (res sat : Reserved) → ((i k : ℕ) → i < cells → k < n → res i k ≡ sat i k) → bytes_of cells n res ≡ bytes_of cells n sat
unfolding bytes_of
bytes_eq zero n res sat same = refl
bytes_eq (suc c) n res sat same =
    ap₂ (λ (a b : List ℕ). a ++ b) (bytes_eq c n res sat (λ i k l h. same i k (omega arith) h))
    (list-eq (λ k. bit (res c k)) (λ k. bit (sat c k)) n (λ k h. ap bit (same c k (omega arith) h)))

-- a front stored over a list that is long enough keeps the length
front_long : (a x : List ℕ) (m : ℕ) → length a ≡ m → m ≤ length x → length (a ++ drop m x) ≡ length x
front_long a x m e h = length-append a (drop m x) ∙ omega (arith, length-drop m x)

-- ---- the changes of form, with lent parts that are long enough

module _ (s : Site) (t w : List ℕ) (table : size s ≤ length t) (words : positions s ≤ length w) where
  words-kept-long : length (to_words s t w) ≡ length w
  words-kept-long =
      either_way (fault_of s)
      (λ e. ap length (done-words s t w e table words)
      ∙ front_long (words_of s.cells (positions s) (reserved (positions s) t)) w (positions s)
      (length-list (word_at s.cells (reserved (positions s) t)) (positions s)) words)
      (λ f e. ap length (refused-words s t w f e))

  bytes-kept-long : length (to_bytes s w t) ≡ length t
  bytes-kept-long =
      either_way (fault_of s)
      (λ e. ap length (done-bytes s t w e table words)
      ∙ front_long (bytes_of s.cells (positions s) (sends_at w)) t (size s) (bytes-long s.cells (positions s) (sends_at w)) table)
      (λ f e. ap length (refused-bytes s t w f e))

  module _ (fine : fault_of s ≡ Ok tt) where
    pub words-say : (i k : ℕ) → i < s.cells → k < positions s → sends_at (to_words s t w) i k ≡ reserved (positions s) t i k
    words-say i k l h =
        ap (λ (x : List ℕ). sends_at x i k) (done-words s t w fine table words)
        ∙ words-send s.cells (positions s) (reserved (positions s) t) (drop (positions s) w) i k l h

    bytes-say : (i k : ℕ) → i < s.cells → k < positions s → reserved (positions s) (to_bytes s w t) i k ≡ sends_at w i k
    bytes-say i k l h =
        ap (λ (x : List ℕ). reserved (positions s) x i k) (done-bytes s t w fine table words)
        ∙ bytes-send s.cells (positions s) (sends_at w) (drop (size s) t) i k l h

    -- there and back: each reservation is kept, every other byte is 0, and what is past the site's bytes is as it was
    pub there_and_back : (u : List ℕ) → size s ≤ length u → to_bytes s (to_words s t w) u
        ≡ bytes_of s.cells (positions s) (reserved (positions s) t) ++ drop (size s) u
    there_and_back u h =
        done-bytes s u (to_words s t w) fine h (omega (arith, words-kept-long))
        ∙ ap (λ (b : List ℕ). b ++ drop (size s) u) (bytes_eq s.cells (positions s) (sends_at (to_words s t w)) (reserved (positions s) t) words-say)

    -- and the other way: each word with its bits above I gone
    pub back-and-there : (v : List ℕ) → positions s ≤ length v → to_words s (to_bytes s w t) v
        ≡ list_of (λ k. get_or w k 0 % 2 ^ s.cells) (positions s) ++ drop (positions s) v
    back-and-there v h =
        done-words s (to_bytes s w t) v fine (omega (arith, bytes-kept-long)) h
        ∙ ap (λ (b : List ℕ). b ++ drop (positions s) v)
        (words-eq s.cells (positions s) (reserved (positions s) (to_bytes s w t)) (sends_at w) bytes-say
        ∙ list-eq (word_at s.cells (sends_at w)) (λ k. get_or w k 0 % 2 ^ s.cells) (positions s) (λ k _. sym (word_mod (get_or w k 0) s.cells)))

  -- ---- the checkers

  pub check-bytes : check_words_answer s w ≡ check_answer s (to_bytes s w t)
  check-bytes = either_way (fault_of s) went not-gone
    where
      went : fault_of s ≡ Ok tt → check_words_answer s w ≡ check_answer s (to_bytes s w t)
      went e =
          sym (words-judged s w e words)
          ∙ ap verdict_of (verdict-agree (net_of s) (sends_at w) (reserved (positions s) (to_bytes s w t)) (λ i k l h. sym (bytes-say e i k l h)))
          ∙ check-judged s (to_bytes s w t) e (omega (arith, bytes-kept-long))

      not-gone : (f : Fault) → fault_of s ≡ Err f → check_words_answer s w ≡ check_answer s (to_bytes s w t)
      not-gone f e = unfold check_words_answer check_answer in rw e

  pub check-table : check_words_answer s (to_words s t w) ≡ check_answer s t
  check-table = either_way (fault_of s) went not-gone
    where
      went : fault_of s ≡ Ok tt → check_words_answer s (to_words s t w) ≡ check_answer s t
      went e =
          sym (words-judged s (to_words s t w) e (omega (arith, words-kept-long)))
          ∙ ap verdict_of (verdict-agree (net_of s) (sends_at (to_words s t w)) (reserved (positions s) t) (words-say e))
          ∙ check-judged s t e table

      not-gone : (f : Fault) → fault_of s ≡ Err f → check_words_answer s (to_words s t w) ≡ check_answer s t
      not-gone f e = unfold check_words_answer check_answer in rw e

  -- ---- the planners

  pub plan-answer-same : plan_words_answer s w ≡ plan_answer s t
  unfolding plan_words_answer plan_answer
  plan-answer-same = rw (le-ltb (length w) (positions s) words, le-ltb (length t) (size s) table)

  out-long : (o : Outcome) → greedy (net_of s) ≡ o → length (table_of (size s) o) ≡ size s
  out-long (planned p) e = planned-size (net_of s) p e
  out-long (no_room c m) e = length-replicate (size s) 0

  pub plan-kept-long : fault_of s ≡ Ok tt → length (plan_table s t) ≡ length t
  plan-kept-long e =
      ap length (run-table s t e table)
      ∙ front_long (table_of (size s) (greedy (net_of s))) t (size s) (out-long (greedy (net_of s)) refl) table

  out-words : (o : Outcome) (x : List ℕ) → greedy (net_of s) ≡ o
      → out_words s.cells (positions s) o ≡ words_of s.cells (positions s) (reserved (positions s) (table_of (size s) o ++ x))
  out-words (planned p) x e =
      words-eq s.cells (positions s) (reserved (positions s) p) (reserved (positions s) (p ++ x))
      (λ i k l h. sym (kept (positions s) p x s.cells (planned-size (net_of s) p e) i k l h))
  out-words (no_room c m) x e =
      sym (list-zeros (positions s))
      ∙ list-eq (λ _. 0) (word_at s.cells (reserved (positions s) (replicate (size s) 0 ++ x))) (positions s)
      (λ k h. sym (none-word (λ i. reserved (positions s) (replicate (size s) 0 ++ x) i k) s.cells (λ i l. silent i k l h)))
    where
      silent : (i k : ℕ) → i < s.cells → k < positions s → reserved (positions s) (replicate (size s) 0 ++ x) i k ≡ false
      silent i k l h =
          kept (positions s) (replicate (size s) 0) x s.cells (length-replicate (size s) 0) i k l h
          ∙ ap sends (get_or-replicate (size s) (i * positions s + k) 0 0 (inside s.cells (positions s) i k l h))

  pub plan-words-are : plan_words s w ≡ to_words s (plan_table s t) w
  plan-words-are = either_way (fault_of s) went not-gone
    where
      untouched : (f : Fault) → fault_of s ≡ Err f → plan_words s w ≡ w
      untouched f e = unfold plan_words in rw e

      run-words : fault_of s ≡ Ok tt → plan_words s w ≡ out_words s.cells (positions s) (greedy (net_of s)) ++ drop (positions s) w
      run-words e = unfold plan_words in rw (e, le-ltb (length w) (positions s) words)

      went : fault_of s ≡ Ok tt → plan_words s w ≡ to_words s (plan_table s t) w
      went e =
          let is = run-table s t e table in
          run-words e
          ∙ ap (λ (b : List ℕ). b ++ drop (positions s) w)
          (out-words (greedy (net_of s)) (drop (size s) t) refl ∙ ap (λ (x : List ℕ). words_of s.cells (positions s) (reserved (positions s) x)) (sym is))
          ∙ sym (done-words s (plan_table s t) w e (omega (arith, plan-kept-long e)) words)

      not-gone : (f : Fault) → fault_of s ≡ Err f → plan_words s w ≡ to_words s (plan_table s t) w
      not-gone f e = untouched f e ∙ sym (refused-words s (plan_table s t) w f e)

-- ---- bits above I

-- numbers that are equal below 2 to the power I have the same bits there
below-bits : (n x y i : ℕ) → x % 2 ^ n ≡ y % 2 ^ n → i < n → bit_at x i ≡ bit_at y i
below-bits n x y i e l =
    sym (word-bit (bit_at x) n i l) ∙ ap (λ (z : ℕ). bit_at z i) (sym (word_mod x n) ∙ e ∙ word_mod y n) ∙ word-bit (bit_at y) n i l

module _ (s : Site) (w v : List ℕ) (long : length w ≡ length v)
    (same : (k : ℕ) → k < positions s → get_or w k 0 % 2 ^ s.cells ≡ get_or v k 0 % 2 ^ s.cells) where
  same-below : (i k : ℕ) → i < s.cells → k < positions s → sends_at w i k ≡ sends_at v i k
  same-below i k l h = below-bits s.cells (get_or w k 0) (get_or v k 0) i (same k h) l

  pub check-above : check_words_answer s w ≡ check_words_answer s v
  unfolding check_words_answer
  check-above =
      ap₂ (λ (m : ℕ) x. answer_with check.Record (fault_of s) (pick (ltb m (positions s)) (Err check.TableShort) (verdict_of x)))
      long (verdict-agree (net_of s) (sends_at w) (sends_at v) same-below)

  pub bytes-above : (t : List ℕ) → to_bytes s w t ≡ to_bytes s v t
  unfolding to_bytes
  bytes-above t =
      ap₂ (λ (m : ℕ) (b : List ℕ). pick (is_fine (fault_of s))
      (pick (ltb (length t) (size s) || ltb m (positions s)) t (b ++ drop (s.cells * positions s) t)) t)
      long (bytes_eq s.cells (positions s) (sends_at w) (sends_at v) same-below)
