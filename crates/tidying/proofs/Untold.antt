-- Of a good sheet no reason is told: its first line and each line of a cell tell nothing, and a line is found after the ends of those before it.
-- Assumes nothing.
use Prim.Native.Nat.{ℕ, zero, suc, ◌+◌, ◌-◌, ◌≤◌, ◌<◌}
use mathlib.Core.Path.{◌≡◌, refl, sym, ap, ◌∙◌}
use mathlib.Core.Bool.{false}
use mathlib.Core.List.{List, ◌++◌}
use native.Mathlib.Omega.{arith}
use borrow.Author.Tests.{ne_eqb, lt-leb, le-ltb}
use Rattle.lines.specs.Format.{header, bits_of}
use Rattle.lines.specs.Match.{starts}
use Rattle.lines.specs.Content.{head_read}
use Rattle.lines.proofs.Heads.{head-written, cells-written}
use Rattle.site.specs.declared.Site.{Site}
use Rattle.site.specs.Record.{load_at, row_of}
use Rattle.sheet.specs.Sheet.{line_of, lines_from, sheet_bytes}
use Rattle.sheet.specs.Means.{FitsSheet}
use Rattle.sheet.proofs.Trip.{bits-two}
use Rattle.cleaning.specs.Clean.{order_mark}
use Rattle.linefaults.specs.Fault.{untold, first_field, after_lines, fault_from, head_fault, cell_fault, fault_of_line}
use Rattle.linefaults.proofs.Lines.{after_none}
use Rattle.linefaults.proofs.Good.{good-head, head_passed, good-cell, cell-passed}
use Rattle.tidying.specs.Tidy.{bad_line_of}
use Rattle.tidying.proofs.Laws.{record_of-law}

module _ (s : Site) (fits : FitsSheet s) where
  abbrev after : List ℕ
  after = lines_from s 0 s.cells

  head-cells : (head_read (sheet_bytes s)).cells ≡ s.cells
  unfolding head_read sheet_bytes
  head-cells =
      rw (head-written s.cells after fits.cells.0 fits.cells.1) (cells-written s.cells after fits.cells.1)

  unmarked : starts order_mark (sheet_bytes s) ≡ false
  unfolding sheet_bytes header starts
  unmarked = refl

  head-quiet : fault_from 0 1 first_field (sheet_bytes s) ≡ untold
  unfolding sheet_bytes
  head-quiet = good-head s.cells fits.cells.1 after

  first-untold : fault_of_line (sheet_bytes s) 1 ≡ untold
  unfolding fault_of_line head_fault
  first-untold = rw unmarked head-quiet

  -- the line of the cell at index j is passed
  line-passed : (j k : ℕ) (r : List ℕ) → j < 32 → after_lines (suc k) (line_of s j ++ r) ≡ after_lines k r
  unfolding line_of
  line-passed j k r h =
      cell-passed s.cells j (load_at s j) (bits_of (row_of s j)) (bits-two (row_of s j)) (omega arith) (fits.held.few j) k r

  lines_at : (k n j : ℕ) → k < n → j + n ≤ 32 → after_lines k (lines_from s j n) ≡ line_of s (j + k) ++ lines_from s (suc (j + k)) (n - suc k)
  unfolding lines_from
  lines_at k zero j h m = absurd (omega arith)
  lines_at zero (suc n) j h m =
      let i : j + 0 ≡ j = omega arith in
      let e : suc n - 1 ≡ n = omega arith in
      after_none (lines_from s j (suc n)) ∙ rw (i, e)
  lines_at (suc k) (suc n) j h m =
      let i : j + suc k ≡ suc j + k = omega arith in
      let e : suc n - suc (suc k) ≡ n - suc k = omega arith in
      rw (i, e) (line-passed j k (lines_from s (suc j) n) (omega arith) ∙ lines_at k n (suc j) (omega arith) (omega arith))

  cell_at : (k : ℕ) → k < s.cells → after_lines (suc k) (sheet_bytes s) ≡ line_of s (0 + k) ++ lines_from s (suc (0 + k)) (s.cells - suc k)
  unfolding sheet_bytes
  cell_at k h = head_passed s.cells fits.cells.1 k after ∙ lines_at k s.cells 0 h (omega (arith, fits.cells.1))

  cell-quiet : (k : ℕ) (r : List ℕ) → k < 32 → fault_from (s.cells + 2) 1 first_field (line_of s k ++ r) ≡ untold
  unfolding line_of
  cell-quiet k r h = good-cell s.cells k (load_at s k) (bits_of (row_of s k)) (bits-two (row_of s k)) (omega arith) (fits.held.few k) r

  cell-untold : (k : ℕ) → k < s.cells → fault_of_line (sheet_bytes s) (k + 2) ≡ untold
  unfolding fault_of_line cell_fault
  cell-untold k h =
      let few = fits.cells.1 in
      let i : k + 2 - 1 ≡ suc k = omega arith in
      rw (
        lt-leb (k + 2) 1 (omega arith),
        head-cells,
        ne_eqb s.cells 0 (λ q. omega arith),
        le-ltb (s.cells + 1) (k + 2) (omega arith),
        i,
        cell_at k h,
      )
      (cell-quiet (0 + k) (lines_from s (suc (0 + k)) (s.cells - suc k)) (omega arith))

  sheet-untold : (line : ℕ) → 1 ≤ line → line ≤ s.cells + 1 → fault_of_line (sheet_bytes s) line ≡ untold
  sheet-untold zero l h = absurd (omega arith)
  sheet-untold (suc zero) l h = first-untold
  sheet-untold (suc (suc k)) l h =
      let e : suc (suc k) ≡ k + 2 = omega arith in
      rw e (cell-untold k (omega arith))

-- a sheet with no bad line tells nothing, of any of its lines
pub good-untold : (b : List ℕ) → bad_line_of b ≡ 0 → (line : ℕ) → 1 ≤ line → line ≤ (head_read b).cells + 1 → fault_of_line b line ≡ untold
good-untold b good line l h =
    let s = (record_of-law b good).0 in
    let w = (record_of-law b good).1 in
    let e : (head_read b).cells ≡ s.cells = ap (λ (x : List ℕ). (head_read x).cells) (sym w.bytes) ∙ head-cells s w.fits in
    rw (← w.bytes) (sheet-untold s w.fits line l (omega arith))
