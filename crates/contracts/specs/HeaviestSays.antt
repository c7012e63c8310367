-- The equalities that the contracts of crate `heaviest` state: r is the answer, and x' what a lent x holds afterwards.
-- Made by tools/surface from the source.
use Rattle.std.specs.Prelude.{Result, ℕ, ◌≡◌}
use Rattle.heaviest.specs.Sets.{heaviest_of}
use Rattle.site.specs.declared.Fault.{Fault}
use Rattle.site.specs.declared.Site.{Site}

-- heaviest::heaviest
pub record Heaviest (site : Site) (r : Result (ℕ × ℕ) Fault) : Type 0 where
  pub answer : r ≡ heaviest_of site
