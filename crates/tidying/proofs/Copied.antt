-- A sheet of the format is copied as it is, byte by byte: each byte has a plain step, which writes the byte and nothing else and names no change.
-- Assumes nothing.
use Prim.Native.Nat.{ℕ, zero, suc, ◌+◌, ◌/◌, ◌%◌, ◌≤◌, ◌<◌}
use mathlib.Core.Path.{◌≡◌, refl, sym, ap, ◌∙◌}
use mathlib.Core.Bool.{Bool, true, false, ◌&&◌, ◌||◌, not, and-false}
use mathlib.Core.List.{List, [], ◌∷◌, ◌++◌}
use native.Mathlib.Omega.{arith}
use native.Mathlib.Decide.{dec_lt}
use lib.Dec.{eqb}
use borrow.Author.Tests.{ne_eqb, eqb-false}
use Rattle.text.specs.Decimal.{decimal}
use Rattle.text.proofs.Digits.{decimal-one, decimal-more}
use Rattle.lines.specs.Format.{crlf, cell_load, cell_number, column, columns, header, marks, label, cell_line, bits_of}
use Rattle.lines.specs.Match.{starts}
use Rattle.site.specs.declared.Site.{Site}
use Rattle.site.specs.Record.{load_at, row_of}
use Rattle.sheet.specs.Sheet.{line_of, lines_from, sheet_bytes}
use Rattle.sheet.proofs.Trip.{bits-two}
use Rattle.cleaning.specs.Clean.{is_empty, is_spaced, first_spot, line_spot, unchanged, is_separator, separator_in, next_column, is_reach, is_late, on_content}
use Rattle.cleaning.specs.Clean.{mend_of}
use Rattle.cleaning.specs.Clean.{comma_change}
use Rattle.cleaning.specs.Clean.{on_separator, on_cr, after_cr, on_field, step_of, byte_out, out_of, clean_from, begins}
use Rattle.cleaning.specs.Clean.{makes, noted, line_after, changes_from}
use Rattle.cleaning.specs.declared.Content.{Content}
use Rattle.cleaning.specs.declared.Quotes.TheVariants.{Unquoted}
use Rattle.cleaning.specs.declared.Content.TheVariants.{Empty, Filled}
use Rattle.cleaning.specs.declared.Standing.{Standing}
use Rattle.cleaning.specs.declared.Step.{Step}
use Rattle.cleaning.specs.declared.Tidied.{Tidied}

-- ---- plain steps

abbrev pub plain_step : Standing → ℕ → Step
plain_step q b = record { spot = q; mend = 0; byte = b; feed = 0; change = 0 }

-- the bytes l lead from one spot to another by plain steps
pub data Through : Standing → List ℕ → Standing → Type 0 where
  none : {p : Standing} → Through p [] p
  more : {p q t : Standing} {l : List ℕ} (b : ℕ) → eqb b 0 ≡ false → step_of 44 p b ≡ plain_step q b → Through q l t → Through p (b ∷ l) t

pub through-both : {p q t : Standing} {l m : List ℕ} → Through p l q → Through q m t → Through p (l ++ m) t
through-both none h = h
through-both (more b n e r) h = more b n e (through-both r h)

-- they are copied
pub copied : {p q : Standing} {l : List ℕ} → Through p l q → (r : List ℕ) → clean_from 44 p (l ++ r) ≡ l ++ clean_from 44 q r
unfolding clean_from out_of byte_out
copied none r = refl
copied (more {l = l} b n e t) r = rw (e, n) (ap (λ (x : List ℕ). b ∷ x) (copied t r))

-- and no change is named
pub not_made : (kind b : ℕ) (q : Standing) → makes kind (plain_step q b) ≡ false
unfolding makes
not_made kind b q = go (eqb kind 0) refl
  where
    go : (t : Bool) → eqb kind 0 ≡ t → (not t && (eqb 0 kind || (eqb kind 6 && false))) ≡ false
    go true e = refl
    go false e = rw (ne_eqb 0 kind (λ z. eqb-false kind 0 e (sym z))) (and-false (eqb kind 6))

not_noted : (kind line b : ℕ) (q : Standing) → noted kind (plain_step q b) line unchanged ≡ unchanged
unfolding noted
not_noted kind line b q = rw (not_made kind b q)

step-unnamed : (kind line b : ℕ) (p q : Standing) (r : List ℕ) → step_of 44 p b ≡ plain_step q b
    → changes_from kind 44 p line unchanged (b ∷ r) ≡ changes_from kind 44 q (line_after line b) unchanged r
unfolding changes_from
step-unnamed kind line b p q r e =
    ap (λ (s : Step). changes_from kind 44 s.spot (line_after line b) (noted kind s line unchanged) r) e
    ∙ ap (λ (c : Tidied). changes_from kind 44 q (line_after line b) c r) (not_noted kind line b q)

pub unnamed : {p q : Standing} {l : List ℕ} → Through p l q
    → (kind line : ℕ) (r : List ℕ) → (after : ℕ) × (changes_from kind 44 p line unchanged (l ++ r) ≡ changes_from kind 44 q after unchanged r)
unnamed none kind line r = (line, refl)
unnamed (more {p = p} {q = q} {l = l} b n e t) kind line r =
    let w = unnamed t kind (line_after line b) r in
    (w.0, step-unnamed kind line b p q (l ++ r) e ∙ w.1)

-- ---- digits

abbrev field : ℕ → Content → Standing
field c x = record { column = c; quotes = Unquoted; content = x; ended = false }

never : (t u : Bool) → (t && (u && false)) ≡ false
never true true = refl
never true false = refl
never false u = refl

digit : (c : ℕ) (x : Content) (d : ℕ) → is_spaced x ≡ false → d < 10 → step_of 44 (field c x) (48 + d) ≡ plain_step (field c Filled) (48 + d)
unfolding step_of on_field on_content is_late is_reach
digit c x d h l =
    rw (
      ne_eqb (48 + d) 44 (λ e. omega arith),
      ne_eqb (48 + d) 10 (λ e. omega arith),
      ne_eqb (48 + d) 13 (λ e. omega arith),
      ne_eqb (48 + d) 32 (λ e. omega arith),
      ne_eqb (48 + d) 34 (λ e. omega arith),
      ne_eqb (48 + d) 0 (λ e. omega arith),
      h,
      ne_eqb (48 + d) 120 (λ e. omega arith),
      ne_eqb (48 + d) 88 (λ e. omega arith),
      never (eqb c 0) (is_empty x),
    )

one-digit : (c : ℕ) (x : Content) (d : ℕ) → is_spaced x ≡ false → d < 10 → Through (field c x) ((48 + d) ∷ []) (field c Filled)
one-digit c x d h l = more (48 + d) (ne_eqb (48 + d) 0 (λ e. omega arith)) (digit c x d h l) none

digits : (n v c : ℕ) → v ≤ n → Through (field c Empty) (decimal v) (field c Filled)
digits zero v c l =
    let e : v ≡ 0 = omega arith in
    rw (e, decimal-one 0 (omega arith)) (one-digit c Empty 0 refl (omega arith))
digits (suc n) v c l = go (dec_lt v 10) (λ m. digits n (v / 10) c (omega arith))
  where
    go : Dec (v < 10) → (10 ≤ v → Through (field c Empty) (decimal (v / 10)) (field c Filled)) → Through (field c Empty) (decimal v) (field c Filled)
    go (yes m) f = rw (decimal-one v m) (one-digit c Empty v refl m)
    go (no m) f = rw (decimal-more v (omega arith)) (through-both (f (omega arith)) (one-digit c Filled (v % 10) refl (omega arith)))

number : (v c : ℕ) → Through (field c Empty) (decimal v) (field c Filled)
number v c = digits v v c (omega arith)

-- ---- lines

-- a comma in the first line, after a cell's number, after its load, after a mark
comma-head : Through (field 3 Filled) (44 ∷ []) (field 3 Empty)
unfolding step_of on_separator next_column mend_of comma_change
comma-head = more 44 refl refl none

comma-number : Through (field 2 Filled) (44 ∷ []) (field 1 Empty)
unfolding step_of on_separator next_column mend_of comma_change
comma-number = more 44 refl refl none

comma-load : Through (field 1 Filled) (44 ∷ []) (field 0 Empty)
unfolding step_of on_separator next_column mend_of comma_change
comma-load = more 44 refl refl none

comma-mark : Through (field 0 Filled) (44 ∷ []) (field 0 Empty)
unfolding step_of on_separator next_column mend_of comma_change
comma-mark = more 44 refl refl none

-- a line's end
head-end : Through (field 3 Filled) crlf line_spot
unfolding step_of on_cr mend_of after_cr
head-end = more 13 refl refl (more 10 refl refl none)

line-end : Through (field 0 Filled) crlf line_spot
unfolding step_of on_cr mend_of after_cr
line-end = more 13 refl refl (more 10 refl refl none)

words : Through first_spot cell_load (field 3 Filled)
unfolding step_of on_separator next_column mend_of comma_change on_field on_content is_late is_reach
words =
    more 99 refl refl
    (more 101 refl refl
    (more 108 refl refl
    (more 108 refl refl (more 44 refl refl (more 108 refl refl (more 111 refl refl (more 97 refl refl (more 100 refl refl none))))))))

head-columns : (n k : ℕ) → Through (field 3 Filled) (columns k n) (field 3 Filled)
unfolding columns column
head-columns zero k = none
head-columns (suc n) k = through-both (through-both comma-head (number (cell_number k) 3)) (head-columns n (suc k))

head : (n : ℕ) → Through first_spot (header n) line_spot
unfolding header
head n = through-both words (through-both (head-columns n 0) head-end)

module _ (f : ℕ → ℕ) (two : (b : ℕ) → f b < 2) where
  mark : (b : ℕ) → Through (field 0 Empty) ((48 + f b) ∷ []) (field 0 Filled)
  mark b = one-digit 0 Empty (f b) refl (omega (arith, two b))

  more-marks : (n b : ℕ) → Through (field 0 Filled) (marks f b n) (field 0 Filled)
  unfolding marks
  more-marks zero b = none
  more-marks (suc n) b = through-both comma-mark (through-both (mark b) (more-marks n (suc b)))

  all-marks : (n : ℕ) → 0 < n → Through (field 1 Filled) (marks f 0 n) (field 0 Filled)
  unfolding marks
  all-marks zero h = absurd (omega arith)
  all-marks (suc n) h = through-both comma-load (through-both (mark 0) (more-marks n 1))

  line : (n k load : ℕ) → 0 < n → Through line_spot (cell_line n k load f) line_spot
  unfolding cell_line label
  line n k load h =
      through-both (through-both (number (cell_number k) 2) comma-number)
      (through-both (number load 1) (through-both (all-marks n h) line-end))

lines : (s : Site) → 0 < s.cells → (n k : ℕ) → Through line_spot (lines_from s k n) line_spot
unfolding lines_from line_of
lines s h zero k = none
lines s h (suc n) k = through-both (line (bits_of (row_of s k)) (bits-two (row_of s k)) s.cells k (load_at s k) h) (lines s h n (suc k))

-- ---- the sheet

pub sheet-through : (s : Site) → 0 < s.cells → Through first_spot (sheet_bytes s) line_spot
unfolding sheet_bytes
sheet-through s h = through-both (head s.cells) (lines s h s.cells 0)

-- its fields are parted by commas, and it has no mark of the byte order
pub sheet-separator : (s : Site) → separator_in (sheet_bytes s) ≡ 44
unfolding sheet_bytes header separator_in is_separator
sheet-separator s = refl

pub sheet-begins : (s : Site) → begins (sheet_bytes s) ≡ 0
unfolding sheet_bytes header begins starts
sheet-begins s = refl
