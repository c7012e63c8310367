-- The line of a position for a spreadsheet, read back. Its numbers are the slot, the channel and the cells; only "clash" has an h, and only "blocked" a b.
-- Assumes nothing.
--     sheet-names  the numbers of a line
--     sheet-clash  "clash" stands in it exactly where two cells clash
--     sheet-block  "blocked" stands in it exactly where the place is blocked
use Prim.Native.Nat.{ℕ, ◌+◌, ◌*◌, ◌/◌, ◌%◌, ◌≤◌, ◌<◌}
use mathlib.Core.Path.{◌≡◌, refl, ap, ◌∙◌}
use mathlib.Core.Bool.{Bool, true, false}
use mathlib.Core.List.{List, [], ◌∷◌, ◌++◌, append_assoc, append-nil}
use mathlib.Core.Logic.{⊎_elim}
use native.Mathlib.Nat.{div-add-mod', mod-lt}
use native.Mathlib.Omega.{arith}
use lib.Dec.{eqb, ltb, lit<}
use borrow.Author.Tests.{ne_eqb, ltb-true, ltb-false}
use Rattle.laws.specs.Choice.{pick}
use Rattle.laws.proofs.Choice.{cases}
use Rattle.text.specs.Decimal.{decimal}
use Rattle.text.proofs.Digits.{decimal-one, decimal-more}
use Rattle.speech.specs.Speech.{spoken}
use Rattle.phrases.specs.Phrases.{phrase}
use Rattle.phrases.specs.declared.Phrase.TheVariants.{Row}
use Rattle.places.specs.Lines.{spread_lines, spread_place_row, spread_plain_row, spread_clash_row, spread_blocked_row, spread_both_row}
use Rattle.places.specs.Places.{cells_said, spread_said}
use Rattle.places.specs.Read.{numbers_from, numbers_told, stands, cells_in}
use Rattle.places.specs.declared.PlaceShown.{PlaceShown}
use Rattle.places.proofs.Read.{Stops, stop-ends, digit-more, cells-names}
use Rattle.places.proofs.Marks.{stands-append, long-none, cells-none}

-- ---- a number of up to three digits

abbrev Reads : ℕ → Type 0
Reads x = (rest : List ℕ) → numbers_told (decimal x ++ rest) ≡ numbers_from x rest

one-digit : (x : ℕ) → x < 10 → Reads x
one-digit x h rest =
    let same : 10 * 0 + x ≡ x = omega arith in
    ap (λ (l : List ℕ). numbers_told (l ++ rest)) (decimal-one x h) ∙ digit-more 0 x rest h ∙ ap (λ k. numbers_from k rest) same

more-digits : (x : ℕ) → 10 ≤ x → Reads (x / 10) → Reads x
more-digits x h so_far rest =
    let whole : 10 * (x / 10) + x % 10 ≡ x = omega (arith, div-add-mod' x 10) in
    ap (λ (l : List ℕ). numbers_told (l ++ rest)) (decimal-more x h)
    ∙ ap numbers_told (append_assoc (decimal (x / 10)) ((48 + x % 10) ∷ []) rest)
    ∙ so_far ((48 + x % 10) ∷ rest)
    ∙ digit-more (x / 10) (x % 10) rest (mod-lt x (lit< tt))
    ∙ ap (λ k. numbers_from k rest) whole

two_digits : (x : ℕ) → x < 100 → Reads x
two_digits x few =
    ⊎_elim (λ q. one-digit x (ltb-true x 10 q)) (λ q. more-digits x (ltb-false x 10 q) (one-digit (x / 10) (omega (arith, div-add-mod' x 10))))
    (cases (ltb x 10))

three-digits : (x : ℕ) → x < 1000 → Reads x
three-digits x few =
    ⊎_elim (λ q. one-digit x (ltb-true x 10 q)) (λ q. more-digits x (ltb-false x 10 q) (two_digits (x / 10) (omega (arith, div-add-mod' x 10))))
    (cases (ltb x 10))

-- and a comma after it
field-read : (x : ℕ) → (x ≡ 0 → ⊥) → x < 1000 → (rest : List ℕ) → numbers_told (decimal x ++ (44 ∷ rest)) ≡ x ∷ numbers_told rest
unfolding numbers_from
field-read x some few rest = three-digits x few (44 ∷ rest) ∙ stop-ends x some (44 ∷ rest) refl

-- ---- the parts of a line

-- slot and channel
place-text : (a b : ℕ) → phrase spread_lines (Row spread_place_row a b 0 0) ≡ decimal a ++ (44 ∷ (decimal b ++ (44 ∷ [])))
unfolding spread_lines spoken
place-text a b = refl

abbrev marks : Bool → Bool → List ℕ
marks c b = phrase spread_lines (Row (pick c (pick b spread_both_row spread_clash_row) (pick b spread_blocked_row spread_plain_row)) 0 0 0 0)

marks-stop : (c b : Bool) → Stops (marks c b)
unfolding spread_lines spoken
marks-stop true true = refl
marks-stop true false = refl
marks-stop false true = refl
marks-stop false false = refl

marks-read : (c b : Bool) → numbers_told (marks c b) ≡ []
unfolding spread_lines spoken numbers_from
marks-read true true = refl
marks-read true false = refl
marks-read false true = refl
marks-read false false = refl

marks-clash : (c b : Bool) → stands 104 (marks c b) ≡ c
unfolding spread_lines spoken stands
marks-clash true true = refl
marks-clash true false = refl
marks-clash false true = refl
marks-clash false false = refl

marks_block : (c b : Bool) → stands 98 (marks c b) ≡ b
unfolding spread_lines spoken stands
marks_block true true = refl
marks_block true false = refl
marks_block false true = refl
marks_block false false = refl

-- ---- the line

module _ (channels k : ℕ) (p : PlaceShown) (few-slots : k / channels + 1 < 1000) (few-channels : k % channels + 1 < 1000) where
  abbrev slot : ℕ
  slot = k / channels + 1

  abbrev channel : ℕ
  channel = k % channels + 1

  abbrev rest : List ℕ
  rest = cells_said p.cells ++ marks p.clash p.blocked

  line-text : spread_said channels k p ≡ decimal slot ++ (44 ∷ (decimal channel ++ (44 ∷ rest)))
  unfolding spread_said
  line-text =
      ap (λ (l : List ℕ). l ++ rest) (place-text slot channel)
      ∙ append_assoc (decimal slot) (44 ∷ (decimal channel ++ (44 ∷ []))) rest
      ∙ ap (λ (l : List ℕ). decimal slot ++ (44 ∷ l)) (append_assoc (decimal channel) (44 ∷ []) rest)

  pub sheet-names : numbers_told (spread_said channels k p) ≡ slot ∷ channel ∷ cells_in p.cells 32
  sheet-names =
      ap numbers_told line-text
      ∙ field-read slot (λ z. omega (arith, z)) few-slots (decimal channel ++ (44 ∷ rest))
      ∙ ap (λ (l : List ℕ). slot ∷ l) (field-read channel (λ z. omega (arith, z)) few-channels rest)
      ∙ ap (λ (l : List ℕ). slot ∷ channel ∷ l) (cells-names p.cells (marks p.clash p.blocked) (marks-stop p.clash p.blocked))
      ∙ ap (λ (l : List ℕ). slot ∷ channel ∷ (cells_in p.cells 32 ++ l)) (marks-read p.clash p.blocked)
      ∙ ap (λ (l : List ℕ). slot ∷ channel ∷ l) (append-nil (cells_in p.cells 32))

  -- a byte that is no digit, no + and no comma stands in the line where it stands in the marks
  module _ (b : ℕ) (no_digit : (d : ℕ) → d < 10 → eqb (48 + d) b ≡ false) (no_plus : eqb 43 b ≡ false) (no-comma : eqb 44 b ≡ false) where
    field-none : (x : ℕ) → x < 1000 → (l : List ℕ) → stands b (decimal x ++ (44 ∷ l)) ≡ stands b l
    unfolding stands
    field-none x few l = stands-append b (decimal x) (44 ∷ l) ∙ rw (long-none b no_digit no_plus x few, no-comma)

    marks-alone : stands b (spread_said channels k p) ≡ stands b (marks p.clash p.blocked)
    marks-alone =
        ap (stands b) line-text
        ∙ field-none slot few-slots (decimal channel ++ (44 ∷ rest))
        ∙ field-none channel few-channels rest
        ∙ stands-append b (cells_said p.cells) (marks p.clash p.blocked)
        ∙ rw (cells-none b no_digit no_plus p.cells 32 (omega arith))

  pub sheet-clash : stands 104 (spread_said channels k p) ≡ p.clash
  sheet-clash = marks-alone 104 (λ d l. ne_eqb (48 + d) 104 (λ z. omega (arith, z, l))) refl refl ∙ marks-clash p.clash p.blocked

  pub sheet-block : stands 98 (spread_said channels k p) ≡ p.blocked
  sheet-block = marks-alone 98 (λ d l. ne_eqb (48 + d) 98 (λ z. omega (arith, z, l))) refl refl ∙ marks_block p.clash p.blocked
