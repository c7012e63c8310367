-- The equalities that the contracts of crate `putlines` state: r is the answer, and x' what a lent x holds afterwards.
-- Made by tools/surface from the source.
use Rattle.std.specs.Prelude.{List, length, ℕ, ◌+◌, ◌≡◌}
use Rattle.lines.specs.Format.{bits_of, cell_line, header}
use Rattle.std.proofs.lemmas.List.Edits.{sets}

-- putlines::put_cell
pub record PutlinesPutCell (out : List ℕ) (at : ℕ) (n : ℕ) (k : ℕ) (load : ℕ) (row : ℕ) (r : ℕ) (out' : List ℕ) : Type 0 where
  pub answer : r ≡ at + length (cell_line n k load (bits_of row))
  pub out_after : out' ≡ sets out at (cell_line n k load (bits_of row))

-- putlines::put_header
pub record PutlinesPutHeader (out : List ℕ) (n : ℕ) (r : ℕ) (out' : List ℕ) : Type 0 where
  pub answer : r ≡ length (header n)
  pub out_after : out' ≡ sets out 0 (header n)
