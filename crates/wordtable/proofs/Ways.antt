-- What a change of form leaves: by the record's fault, and by the lent parts' lengths.
-- And by its answer: one that is done tells that record and lent parts are good, and any other that what was lent is left. Assumes nothing.
use mathlib.Core.Path.{◌≡◌, refl, sym, ap, ap₂, ◌∙◌}
use mathlib.Core.Bool.{Bool, true, false, ◌||◌, or-true, true≢false}
use mathlib.Core.List.{List, ◌++◌}
use Prim.Native.Nat.{ℕ, ◌*◌, ◌≤◌, ◌<◌}
use native.Mathlib.Omega.{arith}
use lib.Dec.{ltb}
use lib.ListN.{length, drop}
use lib.Seq.{sets}
use borrow.Author.Tests.{lt-ltb, le-ltb, ltb-false}
use Rattle.std.specs.Prelude.{Result, Ok, Err}
use Rattle.laws.specs.Choice.{pick}
use Rattle.laws.proofs.Stores.{sets-front, length-list}
use Rattle.theory.specs.Greedy.{reserved}
use Rattle.site.specs.Record.{positions, size, fault_of, is_fine, answer_with}
use Rattle.site.specs.declared.Site.{Site}
use Rattle.site.specs.declared.Fault.{Fault}
use Rattle.words.specs.Words.{word_at, words_of}
use Rattle.checker.proofs.Judged.{sizes_known}
use Rattle.wordforms.specs.Words.{sends_at, bytes_of}
use Rattle.wordtable.specs.Forms.{lent_short, form_answer, to_words, to_bytes}
use Rattle.wordtable.specs.declared.FormError.{FormError}
use Rattle.wordtable.specs.declared.FormError.TheVariants.{TableShort, Record}

-- a record is accepted, or has a fault
pub either_way : {A : Type 0} (r : Result Unit Fault) → (r ≡ Ok tt → A) → ((f : Fault) → r ≡ Err f → A) → A
either_way (Ok u) a b = a refl
either_way (Err f) a b = b f refl

module _ (s : Site) (t w : List ℕ) where
  pub table-short : length t < size s → lent_short s t w ≡ true
  table-short h = ap (λ b. b || ltb (length w) (positions s)) (lt-ltb (length t) (size s) h)

  pub words-short : length w < positions s → lent_short s t w ≡ true
  words-short h = ap (λ b. ltb (length t) (size s) || b) (lt-ltb (length w) (positions s) h) ∙ or-true (ltb (length t) (size s))

  long-enough : size s ≤ length t → positions s ≤ length w → lent_short s t w ≡ false
  long-enough h g = ap₂ (λ a b. a || b) (le-ltb (length t) (size s) h) (le-ltb (length w) (positions s) g)

  -- the record is at fault
  module _ (f : Fault) (e : fault_of s ≡ Err f) where
    pub refused-words : to_words s t w ≡ w
    unfolding to_words
    refused-words = rw e

    pub refused-bytes : to_bytes s w t ≡ t
    unfolding to_bytes
    refused-bytes = rw e

  -- it is accepted, and both lent parts are long enough
  module _ (e : fault_of s ≡ Ok tt) where
    module _ (h : size s ≤ length t) (g : positions s ≤ length w) where
      pub done-words : to_words s t w ≡ words_of s.cells (positions s) (reserved (positions s) t) ++ drop (positions s) w
      unfolding to_words
      done-words = rw (e, long-enough h g)

      pub done-bytes : to_bytes s w t ≡ bytes_of s.cells (positions s) (sends_at w) ++ drop (s.cells * positions s) t
      unfolding to_bytes
      done-bytes = rw (e, long-enough h g)

-- ---- by the answer

-- done: the record has no fault, and both lent parts are long enough
pub record Goes (s : Site) (t w : List ℕ) : Type 0 where
  pub fine : fault_of s ≡ Ok tt
  pub table : size s ≤ length t
  pub words : positions s ≤ length w

neither : (a b : Bool) → (a || b) ≡ false → (a ≡ false) × (b ≡ false)
neither true b e = absurd (true≢false e)
neither false b e = (refl, e)

-- the answer, where r is what is found of the record, and b whether a lent part is short
abbrev answer_by : Result Unit Fault → Bool → Result Unit FormError
answer_by r b = answer_with Record r (pick b (Err TableShort) (Ok tt))

goes_by : (r : Result Unit Fault) (b : Bool) → answer_by r b ≡ Ok tt → (r ≡ Ok tt) × (b ≡ false)
goes_by (Ok u) true e = cc
goes_by (Ok u) false e = (refl, refl)
goes_by (Err f) b e = cc

kept_by : (r : Result Unit Fault) (b : Bool) (done kept : List ℕ) (f : FormError) → answer_by r b ≡ Err f
    → pick (is_fine r) (pick b kept done) kept ≡ kept
kept_by (Ok u) true done kept f e = refl
kept_by (Ok u) false done kept f e = cc
kept_by (Err g) b done kept f e = refl

-- what is stored in the first n places
written : (cells n : ℕ) (t w : List ℕ) → n ≤ length w → sets w 0 (words_of cells n (reserved n t)) ≡ words_of cells n (reserved n t) ++ drop n w
written cells n t w h =
    let long = length-list (word_at cells (reserved n t)) n in
    sets-front w (words_of cells n (reserved n t)) (omega (arith, long)) ∙ ap (λ (k : ℕ). words_of cells n (reserved n t) ++ drop k w) long

module _ (s : Site) (t w : List ℕ) where
  module _ (done : Ok tt ≡ form_answer s t w) where
    pub goes : Goes s t w
    unfolding form_answer
    goes =
        let h = goes_by (fault_of s) (lent_short s t w) (sym done) in
        let g = neither (ltb (length t) (size s)) (ltb (length w) (positions s)) h.1 in
        record { fine = h.0; table = ltb-false (length t) (size s) g.0; words = ltb-false (length w) (positions s) g.1 }

    pub form_known : (size s ≤ length t) × (positions s ≤ length w) × (s.cells ≤ 32) × (positions s ≤ 2048)
    form_known = let z = sizes_known s goes.fine in (goes.table, goes.words, z.0, z.1)

    pub words_done : {x : List ℕ} → x ≡ sets w 0 (words_of s.cells (positions s) (reserved (positions s) t)) → x ≡ to_words s t w
    words_done e = e ∙ written s.cells (positions s) t w goes.words ∙ sym (done-words s t w goes.fine goes.table goes.words)

    pub bytes_done : {x : List ℕ} → x ≡ bytes_of s.cells (positions s) (sends_at w) ++ drop (s.cells * positions s) t → x ≡ to_bytes s w t
    bytes_done e = e ∙ sym (done-bytes s t w goes.fine goes.table goes.words)

  -- any other answer leaves what was lent
  module _ (f : FormError) (refused : Err f ≡ form_answer s t w) where
    pub words_refused : w ≡ to_words s t w
    unfolding form_answer to_words
    words_refused = sym (kept_by (fault_of s) (lent_short s t w) _ w f (sym refused))

    pub bytes_refused : t ≡ to_bytes s w t
    unfolding form_answer to_bytes
    bytes_refused = sym (kept_by (fault_of s) (lent_short s t w) _ t f (sym refused))
