-- The equalities that the contracts of crate `listtext` state: r is the answer, and x' what a lent x holds afterwards.
-- Made by tools/surface from the source.
use Rattle.std.specs.Prelude.{List, Result, ℕ, ◌≡◌}
use Rattle.listhead.specs.Listing.{listing}
use Rattle.records.specs.Write.{laid_over, written}
use Rattle.records.specs.declared.WriteError.{WriteError}

-- listtext::list_text
pub record ListText (bytes : List ℕ) (out : List ℕ) (r : Result ℕ WriteError) (out' : List ℕ) : Type 0 where
  pub answer : r ≡ written (listing bytes) out
  pub out_after : out' ≡ laid_over (listing bytes) out
