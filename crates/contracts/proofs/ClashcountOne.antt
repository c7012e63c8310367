-- For any arguments one answer and one content of what is lent meet the contract, and no other, in crate `clashcount`: by its equalities alone.
-- Made by tools/surface from the source. Assumes nothing.
use Rattle.std.specs.Prelude.{refl, ℕ, ◌≡◌}
use Rattle.clashcount.specs.Count.{clash_count}
use Rattle.contracts.specs.ClashcountSays.{ClashcountClashCount}
use Rattle.site.specs.declared.Site.{Site}

-- clashcount::clash_count
pub clashcount_clash_count-one : (site : Site)
    → (r : ℕ) × (ClashcountClashCount site r)
    × ((q : ℕ) → ClashcountClashCount site q → (q ≡ r))
clashcount_clash_count-one site = (
  clash_count site,
  record { answer = refl },
  λ q says. says.answer,
)
