-- The equalities that the contracts of crate `sitefile` state: r is the answer, and x' what a lent x holds afterwards.
-- Made by tools/surface from the source.
use Rattle.std.specs.Prelude.{List, Result, ℕ, ◌≡◌}
use Rattle.records.specs.declared.WriteError.{WriteError}
use Rattle.site.specs.declared.Site.{Site}
use Rattle.sitefile.specs.Read.{read_site}
use Rattle.sitefile.specs.Write.{site_out, site_written}
use Rattle.sitefile.specs.declared.SiteRead.{SiteRead}

-- sitefile::read_site
pub record ReadSite (bytes : List ℕ) (r : SiteRead) : Type 0 where
  pub answer : r ≡ read_site bytes

-- sitefile::write_site
pub record WriteSite (site : Site) (out : List ℕ) (r : Result ℕ WriteError) (out' : List ℕ) : Type 0 where
  pub answer : r ≡ site_written site out
  pub out_after : out' ≡ site_out site out
