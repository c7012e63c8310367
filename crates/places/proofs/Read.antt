-- The text of a place, read back, names exactly the cells of its word, in rising order. Each number is one digit or two, and after it stands no digit. Assumes
-- nothing.
--     place-names  the numbers in a place's text are its cells
--     blank-read   and blanks before it make no difference
use Prim.Native.Nat.{ℕ, zero, suc, ◌+◌, ◌*◌, ◌/◌, ◌%◌, ◌≤◌, ◌<◌, zero-le}
use mathlib.Core.Path.{◌≡◌, refl, sym, ap, ◌∙◌}
use mathlib.Core.Bool.{Bool, true, false}
use mathlib.Core.List.{List, [], ◌∷◌, ◌++◌, append_assoc, append-nil}
use native.Mathlib.Nat.{div-add-mod', mod-lt}
use native.Mathlib.Omega.{arith}
use lib.Dec.{eqb, ltb, lit<}
use borrow.Author.Tests.{lt-ltb, ne_eqb, ltb-true, ltb-false}
use Rattle.laws.specs.Bits.{bit_at}
use Rattle.laws.specs.Choice.{pick}
use Rattle.laws.specs.Search.{first}
use Rattle.laws.proofs.Search.{first-before}
use Rattle.faults.specs.Faults.{in_turn}
use Rattle.faults.proofs.InTurn.{turn-none}
use Rattle.text.specs.Decimal.{decimal}
use Rattle.text.proofs.Digits.{decimal-one, decimal-two}
use Rattle.speech.specs.Speech.{spoken}
use Rattle.phrases.specs.Phrases.{phrase}
use Rattle.phrases.specs.declared.Phrase.TheVariants.{Silent, Row}
use Rattle.places.specs.Lines.{place_lines, first_cell_row, next_cell_row, place_blocked_row, idle_row}
use Rattle.places.specs.Places.{sent_phrase, cell_said, cells_said, clash_mark, marks_said, place_said}
use Rattle.places.specs.Read.{is_digit, numbers_from, numbers_told, cells_in}
use Rattle.places.specs.declared.PlaceShown.{PlaceShown}

-- a text does not begin with a digit
abbrev pub Stops : List ℕ → Type 0
Stops [] = Unit {0}
Stops (b ∷ text) = is_digit b ≡ false

-- there a number that was begun ends
pub stop-ends : (n : ℕ) → (n ≡ 0 → ⊥) → (rest : List ℕ) → Stops rest → numbers_from n rest ≡ n ∷ numbers_told rest
unfolding numbers_from
stop-ends n h [] e = rw (ne_eqb n 0 h)
stop-ends n h (b ∷ text) e = rw (e, ne_eqb n 0 h)

pub digit-is : (d : ℕ) → d < 10 → is_digit (48 + d) ≡ true
digit-is d h = rw (lt-ltb 47 (48 + d) (omega arith), lt-ltb (48 + d) 58 (omega arith))

-- a digit more
pub digit-more : (n d : ℕ) (rest : List ℕ) → d < 10 → numbers_from n ((48 + d) ∷ rest) ≡ numbers_from (10 * n + d) rest
unfolding numbers_from
digit-more n d rest h = rw (digit-is d h) (ap (λ k. numbers_from k rest) (omega arith))

-- a number of one digit or two, and what comes after it
decimal-read : (x : ℕ) (rest : List ℕ) → (x ≡ 0 → ⊥) → x < 100 → Stops rest → numbers_told (decimal x ++ rest) ≡ x ∷ numbers_told rest
decimal-read x rest some few e = go (ltb x 10) refl
  where
    go : (t : Bool) → ltb x 10 ≡ t → numbers_told (decimal x ++ rest) ≡ x ∷ numbers_told rest
    go true q =
        let h : x < 10 = ltb-true x 10 q in
        let same : 10 * 0 + x ≡ x = omega arith in
        ap (λ (l : List ℕ). numbers_told (l ++ rest)) (decimal-one x h)
        ∙ digit-more 0 x rest h
        ∙ ap (λ k. numbers_from k rest) same
        ∙ stop-ends x some rest e
    go false q =
        let h : 10 ≤ x = ltb-false x 10 q in
        let ten : x / 10 < 10 = omega (arith, div-add-mod' x 10) in
        let one : x % 10 < 10 = mod-lt x (lit< tt) in
        let whole : 10 * (10 * 0 + x / 10) + x % 10 ≡ x = omega (arith, div-add-mod' x 10) in
        ap (λ (l : List ℕ). numbers_told (l ++ rest)) (decimal-two x h few)
        ∙ digit-more 0 (x / 10) ((48 + x % 10) ∷ rest) ten
        ∙ digit-more (10 * 0 + x / 10) (x % 10) rest one
        ∙ ap (λ k. numbers_from k rest) whole
        ∙ stop-ends x some rest e

-- the two rows of a cell
pub first-text : (x : ℕ) → phrase place_lines (Row first_cell_row x 0 0 0) ≡ decimal x
unfolding place_lines spoken
first-text x = append-nil (decimal x)

pub next-text : (x : ℕ) → phrase place_lines (Row next_cell_row x 0 0 0) ≡ 43 ∷ decimal x
unfolding place_lines spoken
next-text x = ap (λ (l : List ℕ). 43 ∷ l) (append-nil (decimal x))

plus-read : (rest : List ℕ) → numbers_told (43 ∷ rest) ≡ numbers_told rest
unfolding numbers_from
plus-read rest = refl

abbrev item : ℕ → ℕ → List ℕ
item word k = pick (bit_at word k) ((k + 1) ∷ []) []

module _ (word : ℕ) where
  -- no cell below n: nothing is said
  none_said : (n : ℕ) → ((k : ℕ) → k < n → bit_at word k ≡ false) → in_turn (cell_said word) n ≡ []
  unfolding sent_phrase
  none_said n h = turn-none (cell_said word) n (λ k l. rw (h k l))

  none-there : (n : ℕ) → ((k : ℕ) → k < n → bit_at word k ≡ false) → in_turn (item word) n ≡ []
  none-there n h = turn-none (item word) n (λ k l. rw (h k l))

  -- what the cells below n come to, before any text that does not begin with a digit
  abbrev Reads : ℕ → Type 0
  Reads n = (rest : List ℕ) → Stops rest → numbers_told (in_turn (cell_said word) n ++ rest) ≡ in_turn (item word) n ++ numbers_told rest

  one_more : (n : ℕ) → n < 32 → Reads n → (rest : List ℕ) → Stops rest → (b t : Bool) → bit_at word n ≡ b → ltb (first (bit_at word) 0 32) n ≡ t
      → numbers_told (in_turn (cell_said word) n ++ (phrase place_lines (pick b (Row (pick t next_cell_row first_cell_row) (n + 1) 0 0 0) Silent) ++ rest))
      ≡ in_turn (item word) n ++ (pick b ((n + 1) ∷ []) [] ++ numbers_told rest)
  one_more n h so_far rest e true true p q =
      ap (λ (l : List ℕ). numbers_told (in_turn (cell_said word) n ++ (l ++ rest))) (next-text (n + 1))
      ∙ so_far (43 ∷ (decimal (n + 1) ++ rest)) refl
      ∙ ap (λ (l : List ℕ). in_turn (item word) n ++ l)
      (plus-read (decimal (n + 1) ++ rest) ∙ decimal-read (n + 1) rest (λ z. omega (arith, z)) (omega arith) e)
  one_more n h so_far rest e true false p q =
      let none : (k : ℕ) → k < n → bit_at word k ≡ false =
      λ k l. first-before (bit_at word) 0 32 k zero-le (omega (arith, ltb-false (first (bit_at word) 0 32) n q)) in
      ap (λ (l : List ℕ). numbers_told (l ++ (phrase place_lines (Row first_cell_row (n + 1) 0 0 0) ++ rest))) (none_said n none)
      ∙ ap (λ (l : List ℕ). numbers_told (l ++ rest)) (first-text (n + 1))
      ∙ decimal-read (n + 1) rest (λ z. omega (arith, z)) (omega arith) e
      ∙ ap (λ (l : List ℕ). l ++ ((n + 1) ∷ numbers_told rest)) (sym (none-there n none))
  one_more n h so_far rest e false t p q = so_far rest e

  no_cell : Reads 0
  unfolding in_turn
  no_cell rest e = refl

  cell-more : (n : ℕ) → n < 32 → Reads n → Reads (suc n)
  unfolding in_turn sent_phrase
  cell-more n h so_far rest e =
      ap numbers_told (append_assoc (in_turn (cell_said word) n) (cell_said word n) rest)
      ∙ one_more n h so_far rest e (bit_at word n) (ltb (first (bit_at word) 0 32) n) refl refl
      ∙ sym (append_assoc (in_turn (item word) n) (item word n) (numbers_told rest))

  cells-read : (n : ℕ) → n ≤ 32 → Reads n
  cells-read zero h = no_cell
  cells-read (suc n) h = cell-more n (omega arith) (cells-read n (omega arith))

-- the marks: no digit, and no number
marks-stop : (word : ℕ) (c b z : Bool)
    → Stops (phrase place_lines (clash_mark c) ++ phrase place_lines (pick b (Row place_blocked_row 0 0 0 0) (pick z (Row idle_row 0 0 0 0) Silent)))
unfolding place_lines spoken
marks-stop word true b z = refl
marks-stop word false true z = refl
marks-stop word false false true = refl
marks-stop word false false false = tt

marks-read : (word : ℕ) (c b z : Bool)
    → numbers_told (phrase place_lines (clash_mark c) ++ phrase place_lines (pick b (Row place_blocked_row 0 0 0 0) (pick z (Row idle_row 0 0 0 0) Silent)))
    ≡ []
unfolding place_lines spoken numbers_from
marks-read word true true z = refl
marks-read word true false true = refl
marks-read word true false false = refl
marks-read word false true z = refl
marks-read word false false true = refl
marks-read word false false false = refl

pub cells-names : (word : ℕ) (rest : List ℕ) → Stops rest → numbers_told (cells_said word ++ rest) ≡ cells_in word 32 ++ numbers_told rest
cells-names word rest e = cells-read word 32 (omega arith) rest e

pub place-names : (p : PlaceShown) → numbers_told (place_said p) ≡ cells_in p.cells 32
unfolding place_said
place-names p =
    cells-read p.cells 32 (omega arith) (marks_said p) (marks-stop p.cells p.clash p.blocked (eqb p.cells 0))
    ∙ ap (λ (l : List ℕ). cells_in p.cells 32 ++ l) (marks-read p.cells p.clash p.blocked (eqb p.cells 0))
    ∙ append-nil (cells_in p.cells 32)

-- blanks before it make no difference
pub blank-read : (rest : List ℕ) → numbers_told (32 ∷ rest) ≡ numbers_told rest
unfolding numbers_from
blank-read rest = refl
