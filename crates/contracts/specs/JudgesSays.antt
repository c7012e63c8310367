-- The equalities that the contracts of crate `judges` state: r is the answer, and x' what a lent x holds afterwards.
-- Made by tools/surface from the source.
use Rattle.std.specs.Prelude.{Result, ◌≡◌}
use Rattle.judges.specs.Judges.{chain_answer, class_answer, least_answer, load_answer}
use Rattle.judges.specs.declared.ChainVerdict.{ChainVerdict}
use Rattle.judges.specs.declared.ClassVerdict.{ClassVerdict}
use Rattle.judges.specs.declared.LeastVerdict.{LeastVerdict}
use Rattle.judges.specs.declared.LoadVerdict.{LoadVerdict}
use Rattle.site.specs.declared.Fault.{Fault}
use Rattle.site.specs.declared.Site.{Site}

-- judges::load_test
pub record LoadTest (site : Site) (r : Result LoadVerdict Fault) : Type 0 where
  pub answer : r ≡ load_answer site

-- judges::chain
pub record Chain (site : Site) (r : Result ChainVerdict Fault) : Type 0 where
  pub answer : r ≡ chain_answer site

-- judges::in_class
pub record InClass (site : Site) (r : Result ClassVerdict Fault) : Type 0 where
  pub answer : r ≡ class_answer site

-- judges::least
pub record Least (site : Site) (r : Result LeastVerdict Fault) : Type 0 where
  pub answer : r ≡ least_answer site
