-- The text of a place has a ! exactly where two cells clash, and a # exactly where it is blocked: no number has such a byte. Assumes nothing.
use Prim.Native.Nat.{ℕ, zero, suc, ◌+◌, ◌/◌, ◌%◌, ◌≤◌, ◌<◌}
use mathlib.Core.Path.{◌≡◌, refl, ap, ◌∙◌}
use mathlib.Core.Bool.{Bool, true, false, ◌||◌}
use mathlib.Core.List.{List, [], ◌∷◌, ◌++◌}
use mathlib.Core.Logic.{⊎_elim}
use native.Mathlib.Omega.{arith}
use lib.Dec.{eqb, ltb}
use borrow.Author.Tests.{ne_eqb, ltb-true, ltb-false}
use Rattle.laws.specs.Bits.{bit_at}
use Rattle.laws.specs.Choice.{pick}
use Rattle.laws.specs.Search.{first}
use Rattle.laws.proofs.Choice.{cases}
use Rattle.faults.specs.Faults.{in_turn}
use Rattle.text.specs.Decimal.{decimal}
use Rattle.text.proofs.Digits.{decimal-one, decimal-two, decimal-more}
use Rattle.speech.specs.Speech.{spoken}
use Rattle.phrases.specs.Phrases.{phrase}
use Rattle.phrases.specs.declared.Phrase.TheVariants.{Silent, Row}
use Rattle.places.specs.Lines.{place_lines, first_cell_row, next_cell_row, place_blocked_row, idle_row}
use Rattle.places.specs.Places.{sent_phrase, cell_said, cells_said, clash_mark, marks_said, place_said}
use Rattle.places.specs.Read.{stands}
use Rattle.places.specs.declared.PlaceShown.{PlaceShown}
use Rattle.places.proofs.Read.{first-text, next-text}

or_later : (t x y z : Bool) → x ≡ (y || z) → (t || x) ≡ ((t || y) || z)
or_later true x y z e = refl
or_later false x y z e = e

pub stands-append : (b : ℕ) (x y : List ℕ) → stands b (x ++ y) ≡ (stands b x || stands b y)
unfolding stands
stands-append b [] y = refl
stands-append b (a ∷ x) y = or_later (eqb a b) (stands b (x ++ y)) (stands b x) (stands b y) (stands-append b x y)

-- a byte that is no digit, and no +
module _ (b : ℕ) (no_digit : (d : ℕ) → d < 10 → eqb (48 + d) b ≡ false) (no_plus : eqb 43 b ≡ false) where
  digits-none : (x : ℕ) → x < 100 → stands b (decimal x) ≡ false
  unfolding stands
  digits-none x few = go (ltb x 10) refl
    where
      go : (t : Bool) → ltb x 10 ≡ t → stands b (decimal x) ≡ false
      go true q = rw (decimal-one x (ltb-true x 10 q), no_digit x (ltb-true x 10 q))
      go false q = rw (decimal-two x (ltb-false x 10 q) few, no_digit (x / 10) (omega arith), no_digit (x % 10) (omega arith))

  -- and of three digits
  pub long-none : (x : ℕ) → x < 1000 → stands b (decimal x) ≡ false
  unfolding stands
  long-none x few = ⊎_elim (λ q. digits-none x (ltb-true x 100 q)) (λ q. more (ltb-false x 100 q)) (cases (ltb x 100))
    where
      more : 100 ≤ x → stands b (decimal x) ≡ false
      more h =
          ap (stands b) (decimal-more x (omega arith)) ∙ stands-append b (decimal (x / 10)) ((48 + x % 10) ∷ [])
          ∙ rw (digits-none (x / 10) (omega arith), no_digit (x % 10) (omega arith))

  plus_none : (rest : List ℕ) → stands b rest ≡ false → stands b (43 ∷ rest) ≡ false
  unfolding stands
  plus_none rest e = rw no_plus e

  cell-none : (word i : ℕ) → i < 32 → stands b (cell_said word i) ≡ false
  unfolding sent_phrase stands
  cell-none word i h = go (bit_at word i) (ltb (first (bit_at word) 0 32) i)
    where
      go : (u t : Bool) → stands b (phrase place_lines (pick u (Row (pick t next_cell_row first_cell_row) (i + 1) 0 0 0) Silent)) ≡ false
      go true true = rw (next-text (i + 1)) (plus_none (decimal (i + 1)) (digits-none (i + 1) (omega arith)))
      go true false = rw (first-text (i + 1)) (digits-none (i + 1) (omega arith))
      go false t = refl

  pub cells-none : (word n : ℕ) → n ≤ 32 → stands b (in_turn (cell_said word) n) ≡ false
  unfolding in_turn stands
  cells-none word zero h = refl
  cells-none word (suc n) h =
      stands-append b (in_turn (cell_said word) n) (cell_said word n) ∙ rw (cells-none word n (omega arith), cell-none word n (omega arith))

  -- only the marks count
  marks-alone : (p : PlaceShown) → stands b (place_said p) ≡ stands b (marks_said p)
  unfolding place_said
  marks-alone p = stands-append b (cells_said p.cells) (marks_said p) ∙ rw (cells-none p.cells 32 (omega arith))

clash-in : (c b z : Bool)
    → stands 33 (phrase place_lines (clash_mark c) ++ phrase place_lines (pick b (Row place_blocked_row 0 0 0 0) (pick z (Row idle_row 0 0 0 0) Silent))) ≡ c
unfolding place_lines spoken stands
clash-in true b z = refl
clash-in false true z = refl
clash-in false false true = refl
clash-in false false false = refl

block_in : (c b z : Bool)
    → stands 35 (phrase place_lines (clash_mark c) ++ phrase place_lines (pick b (Row place_blocked_row 0 0 0 0) (pick z (Row idle_row 0 0 0 0) Silent))) ≡ b
unfolding place_lines spoken stands
block_in true true z = refl
block_in true false true = refl
block_in true false false = refl
block_in false true z = refl
block_in false false true = refl
block_in false false false = refl

-- the bytes of the marks are none of those
no-digit-33 : (d : ℕ) → d < 10 → eqb (48 + d) 33 ≡ false
no-digit-33 d l = ne_eqb (48 + d) 33 (λ z. omega (arith, z))

no-digit-35 : (d : ℕ) → d < 10 → eqb (48 + d) 35 ≡ false
no-digit-35 d l = ne_eqb (48 + d) 35 (λ z. omega (arith, z))

pub clash-shown : (p : PlaceShown) → stands 33 (place_said p) ≡ p.clash
clash-shown p = marks-alone 33 no-digit-33 refl p ∙ clash-in p.clash p.blocked (eqb p.cells 0)

pub block-shown : (p : PlaceShown) → stands 35 (place_said p) ≡ p.blocked
block-shown p = marks-alone 35 no-digit-35 refl p ∙ block_in p.clash p.blocked (eqb p.cells 0)
