-- The writer: how long the sheet is, part by part, and its lines one at a time. Assumes nothing.
use Prim.Native.Nat.{ℕ, zero, suc, ◌+◌, ◌-◌, ◌*◌, ◌≤◌, ◌<◌}
use mathlib.Core.Path.{◌≡◌, refl, sym, ap, ◌∙◌}
use mathlib.Core.List.{List, [], ◌++◌}
use native.Mathlib.Omega.{arith}
use native.Mathlib.Nat.{zero-add}
use native.Mathlib.Numerals.{add-one}
use lib.ListN.{length, get_or, length-append}
use lib.Seq.{sets}
use Rattle.laws.proofs.Stores.{sets-append}
use Rattle.text.specs.Decimal.{decimal}
use Rattle.lines.specs.Format.{crlf, bits_of, column, columns, header, label, cell_line}
use Rattle.putlines.proofs.Steps as putlines
use Rattle.lines.proofs.Lines.{marks-long}
use Rattle.std.specs.Prelude.{Ok}
use Rattle.site.specs.Record.{site_of, load_at, fault_of}
use Rattle.site.proofs.Faults.{fine-sized}
use Rattle.site.specs.declared.Site.{Site}
use Rattle.sheet.specs.Sheet.{line_of, lines_from, sheet_bytes}

-- what the code asks of an accepted record
pub few_cells : (s : Site) → fault_of s ≡ Ok tt → s.cells ≤ 32
few_cells s e = (fine-sized s e).cells_most

-- ---- lengths

pub columns-next : (k n : ℕ) → k < n → length (columns k (n - k)) ≡ 1 + length (decimal (k + 1)) + length (columns (k + 1) (n - (k + 1)))
unfolding column
columns-next k n h =
    ap length (putlines.columns-next k n h) ∙ length-append (column (k + 1)) (columns (k + 1) (n - (k + 1))) ∙ omega arith

pub columns-none : (k n : ℕ) → n ≤ k → length (columns k (n - k)) ≡ 0
columns-none k n h = ap length (putlines.columns-none k n h)

pub header-long : (n : ℕ) → length (header n) ≡ 11 + length (columns 0 (n - 0))
unfolding header
header-long n = let e : n - 0 ≡ n = omega arith in rw (e, length-append (columns 0 n) crlf) (omega arith)

pub line-long : (s : Site) (k : ℕ) → length (line_of s k) ≡ length (decimal (k + 1)) + length (decimal (load_at s k)) + 2 * s.cells + 3
unfolding line_of cell_line label
line-long s k =
    simp (length-append, marks-long) (omega arith)

module _ (s : Site) where
  pub lines_next : (k n : ℕ) → k < n → lines_from s k (n - k) ≡ line_of s k ++ lines_from s (k + 1) (n - (k + 1))
  unfolding lines_from
  lines_next k n h = let e : n - k ≡ suc (n - (k + 1)) = omega arith in rw (e, add-one k)

  pub lines_none : (k n : ℕ) → n ≤ k → lines_from s k (n - k) ≡ []
  unfolding lines_from
  lines_none k n h = let e : n - k ≡ 0 = omega arith in rw e

  pub lines-all : (n : ℕ) → lines_from s 0 n ≡ lines_from s 0 (n - 0)
  lines-all n = let e : n ≡ n - 0 = omega arith in ap (lines_from s 0) e

  pub sheet-parts : length (sheet_bytes s) ≡ length (header s.cells) + length (lines_from s 0 s.cells)
  unfolding sheet_bytes
  sheet-parts = length-append (header s.cells) (lines_from s 0 s.cells)

  pub sheet-long : length (sheet_bytes s) ≡ length (header s.cells) + length (lines_from s 0 (s.cells - 0))
  unfolding sheet_bytes
  sheet-long = rw (← lines-all s.cells) (length-append (header s.cells) (lines_from s 0 s.cells))

-- ---- a site's lines by what they are made of

abbrev pub plain : ℕ → List ℕ → List ℕ → Site
plain n loads reach = site_of n 0 0 loads reach [] 0

pub lines-plain : (s : Site) (m k : ℕ) → lines_from s k m ≡ lines_from (plain s.cells s.loads s.reach) k m
unfolding lines_from line_of
lines-plain s zero k = refl
lines-plain s (suc m) k = ap (λ (l : List ℕ). line_of s k ++ l) (lines-plain s m (suc k))

pub line_plain : (n : ℕ) (loads reach : List ℕ) (k : ℕ) → line_of (plain n loads reach) k ≡ cell_line n k (get_or loads k 0) (bits_of (get_or reach k 0))
unfolding line_of
line_plain n loads reach k = refl

-- how long they are does not hang on the reach
lines-as-long : (s : Site) (m k : ℕ) → length (lines_from s k m) ≡ length (lines_from (plain s.cells s.loads []) k m)
unfolding lines_from
lines-as-long s zero k = refl
lines-as-long s (suc m) k =
    let p = plain s.cells s.loads [] in
    omega (
      arith,
      length-append (line_of s k) (lines_from s (suc k) m),
      length-append (line_of p k) (lines_from p (suc k) m),
      line-long s k,
      line-long p k,
      lines-as-long s m (suc k),
    )

pub as_long : (s : Site) → length (sheet_bytes s) ≡ length (sheet_bytes (plain s.cells s.loads []))
as_long s = omega (arith, sheet-parts s, sheet-parts (plain s.cells s.loads []), lines-as-long s s.cells 0)

-- ---- the whole

-- the first line and then the lines of the cells are the sheet
pub sheet-put : (s : Site) (out out' : List ℕ) (at : ℕ) → out' ≡ sets out 0 (header s.cells) → at ≡ length (header s.cells) →
    sets out' at (lines_from s 0 s.cells) ≡ sets out 0 (sheet_bytes s)
unfolding sheet_bytes
sheet-put s out out' at e h =
    rw (e, h) (ap (λ (i : ℕ). sets (sets out 0 (header s.cells)) i (lines_from s 0 s.cells)) (sym (zero-add _))
    ∙ sym (sets-append out 0 (header s.cells) (lines_from s 0 s.cells)))
