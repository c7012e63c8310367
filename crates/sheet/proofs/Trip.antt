-- Between a sheet and its reader, both ways. Lines that are written are passed one by one, so that the first line and the lines of some cells bring the reader
-- to what stands after them; and lines that are passed are the lines of the site that they make. Assumes nothing.
use Prim.Native.Nat.{ℕ, zero, suc, ◌+◌, ◌-◌, ◌^◌, ◌≤◌, ◌<◌}
use mathlib.Core.Path.{◌≡◌, refl, sym, ap, ◌∙◌}
use mathlib.Core.Bool.{true, false, not}
use mathlib.Core.List.{List, [], ◌++◌, append_assoc, append-nil}
use native.Mathlib.Omega.{arith}
use native.Mathlib.Decide.{dec_lt}
use native.Mathlib.Nat.{mod-lt, zero-lt-suc, pow-le-pow_right}
use lib.ListN.{length}
use lib.Pow.{pow_pos}
use lib.Seq.{drop-append_seam}
use lib.Dec.{lit<}
use borrow.Author.Tests.{lt-ltb, le-ltb}
use Rattle.laws.proofs.Search.{first-none, first-is}
use Rattle.site.specs.Record.{site_of, load_at, row_of, fault_of}
use Rattle.site.specs.Means.{UpTo}
use Rattle.site.specs.declared.Site.{Site}
use Rattle.site.proofs.Accepted.{fine-sound, fine-loads, fine-rows-past, fine-rows}
use Rattle.site.proofs.Faults.{sizes}
use Rattle.lines.specs.Format.{header, bits_of, line_number}
use Rattle.lines.specs.Content.{load_of_line, row_of_line, marks_of_line, mark_of_line, line_in, line_ok}
use Rattle.lines.proofs.Lines.{load-written, line-written, ok-written, row_written, line-there, line-content, weigh-lt, mark-two}
use Rattle.lines.proofs.Heads.{cells-written, head-written}
use Rattle.site.specs.Held.{Held}
use Rattle.sheet.specs.Sheet.{line_of, lines_from, sheet_bytes}
use Rattle.sheet.specs.Read.{from, loads_of_sheet, rows_of_sheet, bad_cell, body, site_of_sheet, judged, bad_sheet, cells_read, read_sheet}
use Rattle.sheet.specs.Means.{BlockedHeld, FitsSheet}
use Rattle.std.specs.Prelude.{Ok}
use Rattle.sheet.proofs.Fill.{fill-long, fill-past, fill-at, fill_is, loads-fill, rows_fill}

pub bits-two : (x b : ℕ) → bits_of x b < 2
unfolding bits_of
bits-two x b = mod-lt _ (lit< tt)

-- ---- lines that are written, and any bytes after them

module _ (s : Site) (fits : FitsSheet s) where
  some : 0 < s.cells
  some = omega (arith, fits.cells)

  module _ (k : ℕ) (r : List ℕ) where
    line-load : load_of_line k (line_of s k ++ r) ≡ load_at s k
    unfolding line_of
    line-load = load-written s.cells k (load_at s k) (bits_of (row_of s k)) r (omega (arith, fits.held.few k)) (bits-two (row_of s k)) some

    line_same : line_in s.cells k (line_of s k ++ r) ≡ line_of s k
    unfolding line_of
    line_same = line-written s.cells k (load_at s k) (bits_of (row_of s k)) r (omega (arith, fits.held.few k)) (bits-two (row_of s k)) some

    line-well : line_ok s.cells k (line_of s k ++ r) ≡ true
    unfolding line_of
    line-well = ok-written s.cells k (load_at s k) (bits_of (row_of s k)) r (omega (arith, fits.held.few k)) (bits-two (row_of s k)) some (fits.held.few k)

    line_row-law : k < s.cells → row_of_line s.cells k (line_of s k ++ r) ≡ row_of s k
    unfolding line_of bits_of
    line_row-law h =
        row_written s.cells k (load_at s k) (bits_of (row_of s k)) r (omega (arith, fits.held.few k)) (bits-two (row_of s k)) some
        (row_of s k) (fits.rows k h) (λ i l. refl)

  -- the lines of the first k cells
  module _ (k : ℕ) (rest : List ℕ) where
    abbrev lines : List ℕ
    lines = lines_from s 0 k ++ rest

    lines_step : (j : ℕ) → j < k → lines_from s j (k - j) ++ rest ≡ line_of s j ++ (lines_from s (suc j) (k - suc j) ++ rest)
    unfolding lines_from
    lines_step j h = let e : k - j ≡ suc (k - suc j) = omega arith in rw e (append_assoc (line_of s j) (lines_from s (suc j) (k - suc j)) rest)

    -- where each line begins
    from-written : (j : ℕ) → j ≤ k → from s.cells lines j ≡ lines_from s j (k - j) ++ rest
    unfolding from
    from-written zero h = let e : k - 0 ≡ k = omega arith in rw e
    from-written (suc j) h =
        let e : from s.cells lines j ≡ line_of s j ++ (lines_from s (suc j) (k - suc j) ++ rest) =
        from-written j (omega arith) ∙ lines_step j (omega arith) in
        rw (e, line_same j (lines_from s (suc j) (k - suc j) ++ rest)) (drop-append_seam (line_of s j) _)

    at-line : (j : ℕ) → j < k → from s.cells lines j ≡ line_of s j ++ (lines_from s (suc j) (k - suc j) ++ rest)
    at-line j h = from-written j (omega arith) ∙ lines_step j h

    line-passed : (j : ℕ) → j < k → line_ok s.cells j (from s.cells lines j) ≡ true
    line-passed j h = ap (line_ok s.cells j) (at-line j h) ∙ line-well j _

    rest-left : from s.cells lines k ≡ rest
    unfolding lines_from
    rest-left = let e : k - k ≡ 0 = omega arith in from-written k (omega arith) ∙ rw e

    -- the first line is passed
    module _ (slots channels : ℕ) (blocked : List ℕ) (rule : ℕ) where
      first-passed : read_sheet (header s.cells ++ lines) slots channels blocked rule ≡ cells_read s.cells lines slots channels blocked rule
      unfolding read_sheet body
      first-passed =
          let u = fits.cells in
          rw (head-written s.cells lines u.0 u.1, cells-written s.cells lines u.1, drop-append_seam (header s.cells) lines)

      -- and the next line is bad
      pub bad-after : k < s.cells → line_ok s.cells k rest ≡ false
          → read_sheet (header s.cells ++ lines) slots channels blocked rule ≡ bad_sheet (line_number k)
      unfolding cells_read bad_cell
      bad-after low bad =
          let is = first-is (λ j. not (line_ok s.cells j (from s.cells lines j))) 0 k s.cells (omega arith) low
          (ap not (ap (line_ok s.cells k) rest-left ∙ bad)) (λ j g m. ap not (line-passed j m)) in
          first-passed ∙ rw (is, lt-ltb k s.cells low)

  -- the lines of all cells
  module _ (rest : List ℕ) (slots channels : ℕ) (blocked : List ℕ) (rule : ℕ) where
    abbrev all : List ℕ
    all = lines s.cells rest

    no-bad : bad_cell s.cells all ≡ s.cells
    unfolding bad_cell
    no-bad =
        first-none (λ k. not (line_ok s.cells k (from s.cells all k))) 0 s.cells (omega arith)
        (λ k l h. ap not (line-passed s.cells rest k h))

    -- and something after them
    pub extra-after : 0 < length rest → read_sheet (header s.cells ++ all) slots channels blocked rule ≡ bad_sheet (line_number s.cells)
    unfolding cells_read
    extra-after h =
        first-passed s.cells rest slots channels blocked rule
        ∙ rw (no-bad, le-ltb s.cells s.cells (omega arith), rest-left s.cells rest, lt-ltb 0 (length rest) h)

    -- what is read is what was written
    site-same : site_of_sheet s.cells all slots channels blocked rule ≡ site_of s.cells slots channels s.loads s.reach blocked rule
    unfolding site_of_sheet
    site-same =
        rw (
          loads-fill s.cells all s.cells,
          rows_fill s.cells all s.cells,
          fill_is (λ j. load_of_line j (from s.cells all j)) s.cells s.loads fits.held.loads
              (λ j h. ap (load_of_line j) (at-line s.cells rest j h) ∙ line-load j _) fits.loads_past,
          fill_is (λ j. row_of_line s.cells j (from s.cells all j)) s.cells s.reach fits.held.rows
              (λ j h. ap (row_of_line s.cells j) (at-line s.cells rest j h) ∙ line_row-law j _ h) fits.rows_past,
        )

    all-judged : rest ≡ []
        → read_sheet (header s.cells ++ all) slots channels blocked rule ≡ judged (site_of s.cells slots channels s.loads s.reach blocked rule)
    unfolding cells_read
    all-judged e =
        first-passed s.cells rest slots channels blocked rule
        ∙ rw (no-bad, le-ltb s.cells s.cells (omega arith), rest-left s.cells rest, site-same, e)

  -- reading the sheet of a record, fine or not, is judging the record
  pub sheet-judged : read_sheet (sheet_bytes s) s.slots s.channels s.blocked s.rule ≡ judged s
  unfolding sheet_bytes
  sheet-judged =
      ap (λ (r : List ℕ). read_sheet (header s.cells ++ r) s.slots s.channels s.blocked s.rule) (sym (append-nil (lines_from s 0 s.cells)))
      ∙ all-judged [] s.slots s.channels s.blocked s.rule refl

-- a fine record can be held
pub fine-fits : (s : Site) → Held s → fault_of s ≡ Ok tt → FitsSheet s
fine-fits s held fine =
    let r = sizes _ _ _ (fine-sound s fine).sizes in
    record {
      held = held;
      cells = (r.cells_some, r.cells_most);
      loads_past = fine-loads s fine;
      rows_past = fine-rows-past s fine;
      rows = λ k h. (fine-rows s fine k h).0;
    }

-- "Reading a written sheet gives the site"
pub written_then_read : (s : Site) → FitsSheet s → fault_of s ≡ Ok tt
    → read_sheet (sheet_bytes s) s.slots s.channels s.blocked s.rule ≡ record { site = s; answer = Ok tt }
unfolding judged
written_then_read s fits fine = sheet-judged s fits ∙ rw fine

-- ---- lines that are passed

-- the site that the first k lines make
abbrev pub made : ℕ → List ℕ → ℕ → ℕ → List ℕ → ℕ → ℕ → Site
made n r slots channels blocked rule k = site_of n slots channels (loads_of_sheet n r k) (rows_of_sheet n r k) blocked rule

module _ (n : ℕ) (r : List ℕ) (slots channels : ℕ) (blocked : List ℕ) (rule : ℕ) (k : ℕ) (cells : UpTo 32 n) (most : k ≤ n)
    (well : (j : ℕ) → j < k → line_ok n j (from n r j) ≡ true) where
  next : (j : ℕ) → j < k → from n r j ≡ line_in n j (from n r j) ++ from n r (suc j)
  unfolding from
  next j h = (line-there n j (from n r j) (well j h)).1

  load_is : (j : ℕ) → j < k → load_at (made n r slots channels blocked rule k) j ≡ load_of_line j (from n r j)
  load_is j h = rw (loads-fill n r k) (fill-at (λ i. load_of_line i (from n r i)) k j h (omega arith))

  row_is : (j : ℕ) → j < k → row_of (made n r slots channels blocked rule k) j ≡ row_of_line n j (from n r j)
  row_is j h = rw (rows_fill n r k) (fill-at (λ i. row_of_line n i (from n r i)) k j h (omega arith))

  line-is : (j : ℕ) → j < k → line_of (made n r slots channels blocked rule k) j ≡ line_in n j (from n r j)
  unfolding line_of
  line-is j h = rw (load_is j h, row_is j h) (line-content n j (from n r j))

  -- they are its lines
  pub lines-made : (d j : ℕ) → j + d ≡ k → from n r j ≡ lines_from (made n r slots channels blocked rule k) j d ++ from n r k
  unfolding lines_from
  lines-made zero j e = let g : j ≡ k = omega arith in ap (from n r) g
  lines-made (suc d) j e =
      let m = made n r slots channels blocked rule k in
      next j (omega arith)
      ∙ rw (line-is j (omega arith), append_assoc (line_in n j (from n r j)) (lines_from m (suc j) d) (from n r k))
      (ap (λ (x : List ℕ). line_in n j (from n r j) ++ x) (lines-made d (suc j) (omega arith)))

  loads-few : (j : ℕ) → Dec (j < k) → load_at (made n r slots channels blocked rule k) j ≤ 65535
  loads-few j (yes h) = omega (arith, load_is j h, (line-there n j (from n r j) (well j h)).0)
  loads-few j (no h) = rw (loads-fill n r k, fill-past (λ i. load_of_line i (from n r i)) k j (omega arith)) (omega arith)

  rows-narrow : (j : ℕ) → Dec (j < k) → row_of (made n r slots channels blocked rule k) j < 2 ^ n
  unfolding row_of_line
  rows-narrow j (yes h) = rw (row_is j h) (weigh-lt (mark_of_line (marks_of_line j (from n r j))) (mark-two (marks_of_line j (from n r j))) n 0)
  rows-narrow j (no h) = rw (rows_fill n r k, fill-past (λ i. row_of_line n i (from n r i)) k j (omega arith)) (pow_pos n)

  -- and a sheet can hold it
  pub fits-made : BlockedHeld blocked → FitsSheet (made n r slots channels blocked rule k)
  fits-made words =
      let wide : 2 ^ n ≤ 2 ^ 32 = pow-le-pow_right (zero-lt-suc 1) cells.1 in
      record {
        held =
            record {
              loads = rw (loads-fill n r k) (fill-long _ k);
              few = λ j. loads-few j (dec_lt j k);
              rows = rw (rows_fill n r k) (fill-long _ k);
              bits = λ j l. omega (arith, rows-narrow j (dec_lt j k), wide);
              blocked = words.long;
              blocked_bits = words.fits;
            };
        cells = cells;
        loads_past = λ j l h. rw (loads-fill n r k) (fill-past (λ i. load_of_line i (from n r i)) k j (omega arith));
        rows_past = λ j l h. rw (rows_fill n r k) (fill-past (λ i. row_of_line n i (from n r i)) k j (omega arith));
        rows = λ j h. rows-narrow j (dec_lt j k);
      }
