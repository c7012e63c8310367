-- For any arguments one answer and one content of what is lent meet the contract, and no other, in crate `oneway`: by its equalities alone.
-- Made by tools/surface from the source. Assumes nothing.
use Rattle.std.specs.Prelude.{Bool, List, Result, refl, ℕ, ◌≡◌}
use Rattle.checker.specs.declared.CheckError.{CheckError}
use Rattle.contracts.specs.OnewaySays.{OnewayIsValid, OnewayTwoWay, OnewayUnseen}
use Rattle.oneway.specs.TwoWay.{is_valid, two_way, unseen_in}
use Rattle.site.specs.declared.Site.{Site}

-- oneway::two_way
pub oneway_two_way-one : (site : Site)
    → (r : Site) × (OnewayTwoWay site r)
    × ((q : Site) → OnewayTwoWay site q → (q ≡ r))
oneway_two_way-one site = (
  two_way site,
  record { answer = refl },
  λ q says. says.answer,
)

-- oneway::is_valid
pub oneway_is_valid-one : (reply : Result Unit CheckError)
    → (r : Bool) × (OnewayIsValid reply r)
    × ((q : Bool) → OnewayIsValid reply q → (q ≡ r))
oneway_is_valid-one reply = (
  is_valid reply,
  record { answer = refl },
  λ q says. says.answer,
)

-- oneway::unseen
pub oneway_unseen-one : (site : Site) (table : List ℕ)
    → (r : Bool) × (OnewayUnseen site table r)
    × ((q : Bool) → OnewayUnseen site table q → (q ≡ r))
oneway_unseen-one site table = (
  unseen_in site table,
  record { answer = refl },
  λ q says. says.answer,
)
