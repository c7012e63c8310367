-- The equalities that the contracts of crate `listhead` state: r is the answer, and x' what a lent x holds afterwards.
-- Made by tools/surface from the source.
use Rattle.std.specs.Prelude.{List, ℕ, ◌≡◌}
use Rattle.listhead.specs.Parts.{file_head, file_rest, file_table}
use Rattle.listhead.specs.declared.Rest.{Rest}
use Rattle.std.proofs.lemmas.List.Edits.{sets}

-- listhead::listed_head
pub record ListheadListedHead (out : List ℕ) (file : List ℕ) (table : List ℕ) (r : Rest) (out' : List ℕ) (table' : List ℕ) : Type 0 where
  pub answer : r ≡ file_rest file
  pub out_after : out' ≡ sets out 0 (file_head file)
  pub table_after : table' ≡ file_table file table
