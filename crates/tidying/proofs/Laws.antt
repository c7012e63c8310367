-- What tidying does to a sheet.
--     good_left         a good sheet is left as it is
--     good-unnamed      and no change is named
--     tidied-good       what is tidied is a good sheet
--     tidied-twice      what is tidied is the same sheet when it is tidied again
--     refused-first     a sheet that cannot be tidied is refused with the first bad line of what tidying made of it
-- A good sheet is the sheet of a record, all of whose bytes have plain steps; it is far shorter than the most bytes. Assumes nothing.
use Prim.Native.Nat.{ℕ, zero, suc, ◌+◌, ◌*◌, ◌≤◌, ◌<◌}
use mathlib.Core.Path.{◌≡◌, refl, sym, ap, ◌∙◌}
use mathlib.Core.Bool.{Bool, true, false}
use mathlib.Core.List.{List, [], ◌++◌, append-nil}
use native.Mathlib.Omega.{arith}
use lib.ListN.{length, take, drop, length-append}
use lib.Seq.{take_all}
use lib.Dec.{leb, eqb}
use borrow.Author.Tests.{eqb-true, eqb-false}
use Rattle.laws.specs.Choice.{pick}
use Rattle.laws.proofs.Stores.{zeros-at}
use Rattle.text.proofs.Digits.{decimal-long}
use Rattle.lines.specs.Format.{crlf, column, columns, header}
use Rattle.lines.specs.Match.{starts}
use Rattle.positions.specs.Blocked.{empty_set}
use Rattle.site.specs.declared.Site.{Site}
use Rattle.site.specs.Record.{load_at}
use Rattle.sheet.specs.Sheet.{line_of, lines_from, sheet_bytes}
use Rattle.sheet.specs.Read.{read_sheet}
use Rattle.sheet.specs.Means.{BlockedHeld, FitsSheet, FirstBadOfSheet, no_first_line, no_cell_line, one_too_many, SheetOf}
use Rattle.sheet.specs.declared.SheetError.{SheetError}
use Rattle.sheet.specs.declared.SheetError.TheVariants as sheet
use Rattle.sheet.proofs.WriteLaws.{line-long, sheet-parts}
use Rattle.sheet.proofs.Answers.{bad-first, first-told, no-bad-line}
use Rattle.cleaning.specs.Clean.{line_spot, unchanged, first_spot, is_fresh, end_of, byte_out, out_of, clean_from, begins, cleaned, separator_in}
use Rattle.cleaning.specs.Clean.{noted, changes_from, mark_change, changes_of}
use Rattle.tidying.specs.Tidy.{most_bytes, tidied, answer_line as line_in, bad_line_of, laid_answer, judged_answer, tidy_answer}
use Rattle.std.specs.Prelude.{Result, Ok, Err}
use Rattle.tidying.specs.declared.TidyError.TheVariants.{OutShort, BadLine}
use Rattle.tidying.proofs.Copied.{copied, not_made, unnamed, sheet-through, sheet-separator, sheet-begins}

-- ---- how long a sheet is

columns-few : (n k : ℕ) → k + n ≤ 99 → length (columns k n) ≤ 3 * n
unfolding columns column
columns-few zero k h = omega arith
columns-few (suc n) k h =
    omega (
      arith,
      length-append (column (k + 1)) (columns (suc k) n),
      decimal-long 1 (k + 1) (omega arith),
      columns-few n (suc k) (omega arith),
    )

header-few : (n : ℕ) → n ≤ 32 → length (header n) ≤ 107
unfolding header
header-few n h = omega (arith, length-append (columns 0 n) crlf, columns-few n 0 (omega arith))

module _ (s : Site) (fits : FitsSheet s) where
  lines-few : (n k : ℕ) → k + n ≤ 32 → length (lines_from s k n) ≤ 74 * n
  unfolding lines_from
  lines-few zero k h = omega arith
  lines-few (suc n) k h =
      omega (
        arith,
        length-append (line_of s k) (lines_from s (suc k) n),
        line-long s k,
        decimal-long 1 (k + 1) (omega arith),
        decimal-long 4 (load_at s k) (omega (arith, fits.held.few k)),
        fits.cells.1,
        lines-few n (suc k) (omega arith),
      )

  pub sheet-few : length (sheet_bytes s) < most_bytes
  sheet-few =
      omega (arith, sheet-parts s, header-few s.cells fits.cells.1, lines-few s.cells 0 (omega (arith, fits.cells.1)), fits.cells.1)

  -- ---- the sheet of a record is left as it is

  pub sheet-cleaned : cleaned (sheet_bytes s) ≡ sheet_bytes s
  unfolding cleaned clean_from end_of is_fresh out_of byte_out
  sheet-cleaned =
      let b = sheet_bytes s in
      let t = sheet-through s fits.cells.0 in
      let e : clean_from 44 first_spot (b ++ []) ≡ b ++ [] = copied t [] in
      let nil : b ++ [] ≡ b = append-nil b in
      rw (sheet-separator s, sheet-begins s) (ap (clean_from 44 first_spot) (sym nil) ∙ e ∙ nil)

  none-at-end : (kind after : ℕ) → changes_from kind 44 line_spot after unchanged [] ≡ unchanged
  unfolding changes_from noted end_of is_fresh
  none-at-end kind after = rw (not_made kind 0 line_spot)

  sheet-unnamed : (kind : ℕ) → changes_of (sheet_bytes s) kind ≡ unchanged
  unfolding changes_of mark_change sheet_bytes header starts
  sheet-unnamed kind = go (eqb kind 1)
    where
      go : (t : Bool) → pick t unchanged (changes_from kind (separator_in (sheet_bytes s)) first_spot 1 unchanged
          (drop (begins (sheet_bytes s)) (sheet_bytes s)))
          ≡ unchanged
      go true = refl
      go false =
          let b = sheet_bytes s in
          let t = sheet-through s fits.cells.0 in
          let w = unnamed t kind 1 [] in
          let nil : b ++ [] ≡ b = append-nil b in
          rw (sheet-separator s, sheet-begins s) (ap (changes_from kind 44 first_spot 1 unchanged) (sym nil) ∙ w.1 ∙ none-at-end kind w.0)

-- ---- good sheets

none-held : BlockedHeld empty_set
none-held = record { long = refl; fits = λ k h. rw (zeros-at 32 k) (omega arith) }

-- lines are numbered from 1
pub from_one : (b : List ℕ) (l : ℕ) → FirstBadOfSheet b l → 0 < l
from_one b l (no_first_line e none) = omega arith
from_one b l (no_cell_line s k rest e fits low is none) = omega arith
from_one b l (one_too_many s x rest e fits is) = omega arith

module _ (b : List ℕ) where
  abbrev said : Result Unit SheetError
  said = (read_sheet b 1 1 empty_set 1).answer

  line-is : (a : Result Unit SheetError) (l : ℕ) → line_in a ≡ l → 0 < l → a ≡ Err (sheet.BadLine l)
  line-is (Ok u) l e h = absurd (omega arith)
  line-is (Err (sheet.BadLine m)) l e h = ap (λ (k : ℕ). Err (sheet.BadLine k)) e
  line-is (Err (sheet.Record f)) l e h = absurd (omega arith)

  -- a line that is told is the first bad one
  pub line_first : (l : ℕ) → bad_line_of b ≡ l → 0 < l → FirstBadOfSheet b l
  unfolding bad_line_of
  line_first l e h = bad-first b 1 1 empty_set 1 none-held l (line-is said l e h)

  -- and the first bad one is told
  pub first-line : (l : ℕ) → FirstBadOfSheet b l → bad_line_of b ≡ l
  unfolding bad_line_of
  first-line l f = ap line_in (first-told b 1 1 empty_set 1 none-held l f)

  -- so where none is told, there is none
  pub none-bad : bad_line_of b ≡ 0 → (l : ℕ) → FirstBadOfSheet b l → ⊥
  none-bad e l f = omega (arith, from_one b l f, first-line l f, e)

  module _ (good : bad_line_of b ≡ 0) where
    pub record_of-law : (s : Site) × SheetOf b 1 1 empty_set 1 s
    record_of-law = no-bad-line b 1 1 empty_set 1 none-held (none-bad good)

    pub good_left : tidied b ≡ b
    unfolding tidied
    good_left =
        let s = record_of-law.0 in
        let w = record_of-law.1 in
        rw (← w.bytes) (ap (take most_bytes) (sheet-cleaned s w.fits) ∙ take_all most_bytes (sheet_bytes s) (omega (arith, sheet-few s w.fits)))

    pub good-unnamed : (kind : ℕ) → changes_of b kind ≡ unchanged
    good-unnamed kind =
        let w = record_of-law.1 in
        rw (← w.bytes) (sheet-unnamed record_of-law.0 w.fits kind)

-- ---- the three theorems over the answer

module _ (s out : List ℕ) where
  -- what is done is good
  pub tidied-good : (n : ℕ) → tidy_answer s out ≡ Ok n → bad_line_of (tidied s) ≡ 0
  unfolding tidy_answer judged_answer
  tidied-good n e = go (eqb (bad_line_of (tidied s)) 0) refl e
    where
      go : (t : Bool) → eqb (bad_line_of (tidied s)) 0 ≡ t → pick t (laid_answer (tidied s) out) (Err (BadLine (bad_line_of (tidied s)))) ≡ Ok n
          → bad_line_of (tidied s) ≡ 0
      go true q h = eqb-true _ _ q
      go false q h = let z : ◌≡◌ {A = ℕ} 0 1 = cc in absurd (omega arith)

  pub tidied-twice : (n : ℕ) → tidy_answer s out ≡ Ok n → tidied (tidied s) ≡ tidied s
  tidied-twice n e = good_left (tidied s) (tidied-good n e)

  not-laid : (t : Bool) (m k l : ℕ) → pick t (Ok m) (Err (OutShort k)) ≡ Err (BadLine l) → ⊥
  not-laid true m k l e = let z : ◌≡◌ {A = ℕ} 0 1 = cc in omega arith
  not-laid false m k l e = let z : ◌≡◌ {A = ℕ} 0 1 = cc in omega arith

  pub refused-first : (l : ℕ) → tidy_answer s out ≡ Err (BadLine l) → FirstBadOfSheet (tidied s) l
  unfolding tidy_answer judged_answer laid_answer
  refused-first l e = go (eqb (bad_line_of (tidied s)) 0) refl e
    where
      go : (t : Bool) → eqb (bad_line_of (tidied s)) 0 ≡ t → pick t (laid_answer (tidied s) out) (Err (BadLine (bad_line_of (tidied s)))) ≡ Err (BadLine l)
          → FirstBadOfSheet (tidied s) l
      go true q h = absurd (not-laid (leb (length (tidied s)) (length out)) (length (tidied s)) (length (tidied s)) l h)
      go false q h =
          let is : bad_line_of (tidied s) ≡ l = cc in
          let some : bad_line_of (tidied s) ≡ 0 → ⊥ = eqb-false _ _ q in
          line_first (tidied s) l is (positive l (λ z. some (is ∙ z)))
        where
          positive : (m : ℕ) → (m ≡ 0 → ⊥) → 0 < m
          positive zero h = absurd (h refl)
          positive (suc m) h = omega arith
