-- The reader part way: where it stands, which lines it has passed, and what it has read. Assumes nothing.
use Prim.Native.Nat.{ℕ, ◌+◌, ◌-◌, ◌≤◌, ◌<◌}
use mathlib.Core.Path.{◌≡◌, refl, sym, ap, ap₂, ◌∙◌}
use mathlib.Core.Bool.{Bool, false, not}
use mathlib.Core.List.{List}
use native.Mathlib.Omega.{arith}
use native.Mathlib.Numerals.{add-one}
use lib.ListN.{length, drop, set, replicate, length-drop}
use lib.Seq.{drop-drop}
use borrow.Author.Tests.{lt-ltb, le-ltb}
use Rattle.std.specs.Prelude.{Some, None}
use Rattle.laws.specs.Search.{first}
use Rattle.laws.proofs.Search.{found, missed, ended}
use Rattle.lines.specs.Format.{line_number}
use Rattle.lines.specs.Match.{nowhere}
use Rattle.lines.specs.Content.{load_of_line, row_of_line, line_in, line_ok, line_read, cells_of_line, head_read}
use Rattle.lines.specs.declared.Line.{Line}
use Rattle.lines.specs.declared.Head.{Head}
use Rattle.lines.proofs.Steps.{answer-bad, answer-good}
use Rattle.lines.proofs.Heads.{head-bad, head-good}
use Rattle.site.specs.Record.{site_of}
use Rattle.sheet.specs.Read.{from, bad_cell, loads_of_sheet, rows_of_sheet, body, site_of_sheet, judged, bad_sheet, cells_read, read_sheet}

-- the line of the cell at index k is not of the format
abbrev test : ℕ → List ℕ → ℕ → Bool
test n r k = not (line_ok n k (from n r k))

pub record Reading (s r : List ℕ) (n : ℕ) (loads reach : List ℕ) (p k : ℕ) : Type 0 where
  pub most : k ≤ n
  pub place : drop p s ≡ from n r k
  pub sought : bad_cell n r ≡ first (λ j. not (line_ok n j (from n r j))) k n
  pub loads_are : loads ≡ loads_of_sheet n r k
  pub rows_are : reach ≡ rows_of_sheet n r k

pub begun : (s : List ℕ) (at n : ℕ) → Reading s (drop at s) n (replicate 32 0) (replicate 32 0) at 0
unfolding from bad_cell loads_of_sheet rows_of_sheet
begun s at n = record { most = omega arith; place = refl; sought = refl; loads_are = refl; rows_are = refl }

module _ (s r : List ℕ) (n : ℕ) (loads reach : List ℕ) (p k slots channels : ℕ) (blocked : List ℕ) (rule : ℕ)
    (w : Reading s r n loads reach p k) where
  -- a line that is not of the format
  pub stopped : None ≡ line_read s p n k → k < n → bad_sheet (line_number k) ≡ cells_read n r slots channels blocked rule
  unfolding cells_read
  stopped e m =
      let b : line_ok n k (from n r k) ≡ false = ap (line_ok n k) (sym w.place) ∙ answer-bad s p n k e in
      let f : k ≡ bad_cell n r = found (test n r) k n w.sought m (ap not b) in
      rw (← f, lt-ltb k n m)

  -- one that is
  pub passed : (l : Line) → Some l ≡ line_read s p n k → k < n
      → Reading s r n (set loads k l.load) (set reach k l.row) l.next (k + 1)
  unfolding from loads_of_sheet rows_of_sheet
  passed l e m =
      let g = answer-good s p n k l e in
      record {
        most = omega arith;
        place =
            rw (g.1, add-one k)
            (sym (drop-drop (length (line_in n k (drop p s))) p s) ∙ ap (λ (x : List ℕ). drop (length (line_in n k x)) x) w.place);
        sought = missed (test n r) k n w.sought m (ap not (ap (line_ok n k) (sym w.place) ∙ g.0));
        loads_are = rw (g.1, add-one k) (ap₂ (λ (x : List ℕ) (y : List ℕ). set x k (load_of_line k y)) w.loads_are w.place);
        rows_are = rw (g.1, add-one k) (ap₂ (λ (x : List ℕ) (y : List ℕ). set x k (row_of_line n k y)) w.rows_are w.place);
      }

  module _ (all : n ≤ k) where
    end : k ≡ n
    end = let m = w.most in omega arith

    whole : bad_cell n r ≡ n
    whole = sym (ended (test n r) k n w.sought all) ∙ end

    left : length s - p ≡ length (from n r n)
    left = sym (length-drop p s) ∙ ap length w.place ∙ ap (λ (i : ℕ). length (from n r i)) end

    pub extra : p < length s → bad_sheet (line_number n) ≡ cells_read n r slots channels blocked rule
    unfolding cells_read
    extra h = rw (whole, le-ltb n n (omega arith), lt-ltb 0 (length (from n r n)) (omega (arith, left)))

    pub finished : length s ≤ p → judged (site_of n slots channels loads reach blocked rule) ≡ cells_read n r slots channels blocked rule
    unfolding cells_read site_of_sheet
    finished h =
        rw (whole, le-ltb n n (omega arith), le-ltb 0 (length (from n r n)) (omega (arith, left)), w.loads_are, w.rows_are, end)

-- ---- the first line

module _ (s : List ℕ) (slots channels : ℕ) (blocked : List ℕ) (rule : ℕ) (short : length s < nowhere) (h : Head) (e : h ≡ head_read s) where
  pub first-bad : h.next ≡ nowhere → bad_sheet 1 ≡ read_sheet s slots channels blocked rule
  unfolding read_sheet
  first-bad n = rw (head-bad s short h e n)

  pub first_good : (h.next ≡ nowhere → ⊥)
      → (h.cells ≡ cells_of_line s) × (cells_read h.cells (drop h.next s) slots channels blocked rule ≡ read_sheet s slots channels blocked rule)
  unfolding read_sheet body
  first_good n =
      let g = head-good s short h e n in
      (ap (λ (x : Head). x.cells) g.1, rw (g.1, g.0))
