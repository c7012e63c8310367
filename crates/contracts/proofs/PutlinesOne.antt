-- For any arguments one answer and one content of what is lent meet the contract, and no other, in crate `putlines`: by its equalities alone.
-- Made by tools/surface from the source. Assumes nothing.
use Rattle.std.specs.Prelude.{List, length, refl, ℕ, ◌+◌, ◌≡◌}
use Rattle.contracts.specs.PutlinesSays.{PutlinesPutCell, PutlinesPutHeader}
use Rattle.lines.specs.Format.{bits_of, cell_line, header}
use Rattle.std.proofs.lemmas.List.Edits.{sets}

-- putlines::put_cell
pub putlines_put_cell-one : (out : List ℕ) (at : ℕ) (n : ℕ) (k : ℕ) (load : ℕ) (row : ℕ)
    → (r : ℕ) × (out' : List ℕ) × (PutlinesPutCell out at n k load row r out')
    × ((q : ℕ) (out'' : List ℕ) → PutlinesPutCell out at n k load row q out'' → (q ≡ r) × (out'' ≡ out'))
putlines_put_cell-one out at n k load row = (
  at + length (cell_line n k load (bits_of row)),
  sets out at (cell_line n k load (bits_of row)),
  record { answer = refl; out_after = refl },
  λ q out'' says. (says.answer, says.out_after),
)

-- putlines::put_header
pub putlines_put_header-one : (out : List ℕ) (n : ℕ)
    → (r : ℕ) × (out' : List ℕ) × (PutlinesPutHeader out n r out')
    × ((q : ℕ) (out'' : List ℕ) → PutlinesPutHeader out n q out'' → (q ≡ r) × (out'' ≡ out'))
putlines_put_header-one out n = (
  length (header n),
  sets out 0 (header n),
  record { answer = refl; out_after = refl },
  λ q out'' says. (says.answer, says.out_after),
)
