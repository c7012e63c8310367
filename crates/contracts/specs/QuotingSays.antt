-- The equalities that the contracts of crate `quoting` state: r is the answer, and x' what a lent x holds afterwards.
-- Made by tools/surface from the source.
use Rattle.std.specs.Prelude.{List, length, ℕ, ◌+◌, ◌≡◌}
use Rattle.quoting.specs.Names.{quoted_name}
use Rattle.std.proofs.lemmas.List.Edits.{sets}

-- quoting::put_name
pub record QuotingPutName (out : List ℕ) (at : ℕ) (name : List ℕ) (r : ℕ) (out' : List ℕ) : Type 0 where
  pub answer : r ≡ at + length (quoted_name name)
  pub out_after : out' ≡ sets out at (quoted_name name)
