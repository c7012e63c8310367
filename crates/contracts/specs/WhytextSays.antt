-- The equalities that the contracts of crate `whytext` state: r is the answer, and x' what a lent x holds afterwards.
-- Made by tools/surface from the source.
use Rattle.std.specs.Prelude.{List, Result, ℕ, ◌≡◌}
use Rattle.records.specs.declared.WriteError.{WriteError}
use Rattle.site.specs.declared.Site.{Site}
use Rattle.whytext.specs.Text.{why_out, why_written}

-- whytext::why_text
pub record WhyText (site : Site) (out : List ℕ) (r : Result ℕ WriteError) (out' : List ℕ) : Type 0 where
  pub answer : r ≡ why_written site out
  pub out_after : out' ≡ why_out site out
