-- The equalities that the contracts of crate `tidying` state: r is the answer, and x' what a lent x holds afterwards.
-- Made by tools/surface from the source.
use Rattle.std.specs.Prelude.{List, Result, ℕ, ◌≡◌}
use Rattle.cleaning.specs.Clean.{changes_of}
use Rattle.cleaning.specs.declared.Tidied.{Tidied}
use Rattle.tidying.specs.Tidy.{tidy_answer, tidy_out}
use Rattle.tidying.specs.declared.TidyError.{TidyError}

-- tidying::tidy
pub record Tidy (sheet : List ℕ) (out : List ℕ) (r : Result ℕ TidyError) (out' : List ℕ) : Type 0 where
  pub answer : r ≡ tidy_answer sheet out
  pub out_after : out' ≡ tidy_out sheet out

-- tidying::changes_made
pub record ChangesMade (sheet : List ℕ) (kind : ℕ) (r : Tidied) : Type 0 where
  pub answer : r ≡ changes_of sheet kind
