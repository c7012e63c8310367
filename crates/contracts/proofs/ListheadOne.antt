-- For any arguments one answer and one content of what is lent meet the contract, and no other, in crate `listhead`: by its equalities alone.
-- Made by tools/surface from the source. Assumes nothing.
use Rattle.std.specs.Prelude.{List, refl, ℕ, ◌≡◌}
use Rattle.contracts.specs.ListheadSays.{ListheadListedHead}
use Rattle.listhead.specs.Parts.{file_head, file_rest, file_table}
use Rattle.listhead.specs.declared.Rest.{Rest}
use Rattle.std.proofs.lemmas.List.Edits.{sets}

-- listhead::listed_head
pub listhead_listed_head-one : (out : List ℕ) (file : List ℕ) (table : List ℕ)
    → (r : Rest) × (out' : List ℕ) × (table' : List ℕ) × (ListheadListedHead out file table r out' table')
    × ((q : Rest) (out'' : List ℕ) (table'' : List ℕ) → ListheadListedHead out file table q out'' table'' → (q ≡ r) × (out'' ≡ out') × (table'' ≡ table'))
listhead_listed_head-one out file table = (
  file_rest file,
  sets out 0 (file_head file),
  file_table file table,
  record { answer = refl; out_after = refl; table_after = refl },
  λ q out'' table'' says. (says.answer, says.out_after, says.table_after),
)
