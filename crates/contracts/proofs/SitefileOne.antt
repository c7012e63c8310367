-- For any arguments one answer and one content of what is lent meet the contract, and no other, in crate `sitefile`: by its equalities alone.
-- Made by tools/surface from the source. Assumes nothing.
use Rattle.std.specs.Prelude.{List, Result, refl, ℕ, ◌≡◌}
use Rattle.contracts.specs.SitefileSays.{ReadSite, WriteSite}
use Rattle.records.specs.declared.WriteError.{WriteError}
use Rattle.site.specs.declared.Site.{Site}
use Rattle.sitefile.specs.Read.{read_site}
use Rattle.sitefile.specs.Write.{site_out, site_written}
use Rattle.sitefile.specs.declared.SiteRead.{SiteRead}

-- sitefile::read_site
pub read_site-one : (bytes : List ℕ)
    → (r : SiteRead) × (ReadSite bytes r)
    × ((q : SiteRead) → ReadSite bytes q → (q ≡ r))
read_site-one bytes = (
  read_site bytes,
  record { answer = refl },
  λ q says. says.answer,
)

-- sitefile::write_site
pub write_site-one : (site : Site) (out : List ℕ)
    → (r : Result ℕ WriteError) × (out' : List ℕ) × (WriteSite site out r out')
    × ((q : Result ℕ WriteError) (out'' : List ℕ) → WriteSite site out q out'' → (q ≡ r) × (out'' ≡ out'))
write_site-one site out = (
  site_written site out,
  site_out site out,
  record { answer = refl; out_after = refl },
  λ q out'' says. (says.answer, says.out_after),
)
