-- For any arguments one answer and one content of what is lent meet the contract, and no other, in crate `heaviest`: by its equalities alone.
-- Made by tools/surface from the source. Assumes nothing.
use Rattle.std.specs.Prelude.{Result, refl, ℕ, ◌≡◌}
use Rattle.contracts.specs.HeaviestSays.{Heaviest}
use Rattle.heaviest.specs.Sets.{heaviest_of}
use Rattle.site.specs.declared.Fault.{Fault}
use Rattle.site.specs.declared.Site.{Site}

-- heaviest::heaviest
pub heaviest-one : (site : Site)
    → (r : Result (ℕ × ℕ) Fault) × (Heaviest site r)
    × ((q : Result (ℕ × ℕ) Fault) → Heaviest site q → (q ≡ r))
heaviest-one site = (
  heaviest_of site,
  record { answer = refl },
  λ q says. says.answer,
)
