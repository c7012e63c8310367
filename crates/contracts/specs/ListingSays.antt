-- The equalities that the contracts of crate `listing` state: r is the answer, and x' what a lent x holds afterwards.
-- Made by tools/surface from the source.
use Rattle.std.specs.Prelude.{List, Result, length, ℕ, ◌+◌, ◌≡◌}
use Rattle.listing.specs.Answers.{head_with, row_count}
use Rattle.planner.specs.declared.PlanError.{PlanError}
use Rattle.say_listing.specs.Lines.{cell_listed}
use Rattle.site.specs.declared.Site.{Site}
use Rattle.std.proofs.lemmas.List.Edits.{sets}
use Rattle.theory.specs.Greedy.{row_at}

-- listing::row_count
pub record ListingRowCount (reply : Result Unit PlanError) (cells : ℕ) (r : ℕ) : Type 0 where
  pub answer : r ≡ row_count reply cells

-- listing::put_answers
pub record ListingPutAnswers (out : List ℕ) (site : Site) (reply : Result Unit PlanError) (r : ℕ) (out' : List ℕ) : Type 0 where
  pub answer : r ≡ 0 + length (head_with site reply)
  pub out_after : out' ≡ sets out 0 (head_with site reply)

-- listing::row_line
pub record ListingRowLine (out : List ℕ) (table : List ℕ) (width : ℕ) (channels : ℕ) (i : ℕ) (r : ℕ) (out' : List ℕ) : Type 0 where
  pub answer : r ≡ 0 + length (cell_listed (i + 1) channels (row_at width table i))
  pub out_after : out' ≡ sets out 0 (cell_listed (i + 1) channels (row_at width table i))
