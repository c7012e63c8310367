-- The equalities that the contracts of crate `clashcount` state: r is the answer, and x' what a lent x holds afterwards.
-- Made by tools/surface from the source.
use Rattle.std.specs.Prelude.{ℕ, ◌≡◌}
use Rattle.clashcount.specs.Count.{clash_count}
use Rattle.site.specs.declared.Site.{Site}

-- clashcount::clash_count
pub record ClashcountClashCount (site : Site) (r : ℕ) : Type 0 where
  pub answer : r ≡ clash_count site
