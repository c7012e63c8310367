-- For any arguments one answer and one content of what is lent meet the contract, and no other, in crate `judges`: by its equalities alone.
-- Made by tools/surface from the source. Assumes nothing.
use Rattle.std.specs.Prelude.{Result, refl, ◌≡◌}
use Rattle.contracts.specs.JudgesSays.{Chain, InClass, Least, LoadTest}
use Rattle.judges.specs.Judges.{chain_answer, class_answer, least_answer, load_answer}
use Rattle.judges.specs.declared.ChainVerdict.{ChainVerdict}
use Rattle.judges.specs.declared.ClassVerdict.{ClassVerdict}
use Rattle.judges.specs.declared.LeastVerdict.{LeastVerdict}
use Rattle.judges.specs.declared.LoadVerdict.{LoadVerdict}
use Rattle.site.specs.declared.Fault.{Fault}
use Rattle.site.specs.declared.Site.{Site}

-- judges::load_test
pub load_test-one : (site : Site)
    → (r : Result LoadVerdict Fault) × (LoadTest site r)
    × ((q : Result LoadVerdict Fault) → LoadTest site q → (q ≡ r))
load_test-one site = (
  load_answer site,
  record { answer = refl },
  λ q says. says.answer,
)

-- judges::chain
pub chain-one : (site : Site)
    → (r : Result ChainVerdict Fault) × (Chain site r)
    × ((q : Result ChainVerdict Fault) → Chain site q → (q ≡ r))
chain-one site = (
  chain_answer site,
  record { answer = refl },
  λ q says. says.answer,
)

-- judges::in_class
pub in_class-one : (site : Site)
    → (r : Result ClassVerdict Fault) × (InClass site r)
    × ((q : Result ClassVerdict Fault) → InClass site q → (q ≡ r))
in_class-one site = (
  class_answer site,
  record { answer = refl },
  λ q says. says.answer,
)

-- judges::least
pub least-one : (site : Site)
    → (r : Result LeastVerdict Fault) × (Least site r)
    × ((q : Result LeastVerdict Fault) → Least site q → (q ≡ r))
least-one site = (
  least_answer site,
  record { answer = refl },
  λ q says. says.answer,
)
