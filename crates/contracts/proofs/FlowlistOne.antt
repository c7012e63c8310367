-- For any arguments one answer and one content of what is lent meet the contract, and no other, in crate `flowlist`: by its equalities alone.
-- Made by tools/surface from the source. Assumes nothing.
use Rattle.std.specs.Prelude.{List, length, refl, ◌≡◌}
use Rattle.contracts.specs.FlowlistSays.{FlowlistEmpty, FlowlistGather, FlowlistPush}
use Rattle.flowlist.specs.List.{few, gathered, no_flows, with_flow}
use Rattle.flowlist.specs.declared.Flow.{Flow}
use Rattle.flowlist.specs.declared.FlowList.{FlowList}

-- flowlist::empty
pub flowlist_empty-one : (r : FlowList) × (FlowlistEmpty r)
    × ((q : FlowList) → FlowlistEmpty q → (q ≡ r))
flowlist_empty-one = (
  no_flows,
  record { answer = refl },
  λ q says. says.answer,
)

-- flowlist::push
pub flowlist_push-one : (l : FlowList) (f : Flow)
    → (r : FlowList) × (FlowlistPush l f r)
    × ((q : FlowList) → FlowlistPush l f q → (q ≡ r))
flowlist_push-one l f = (
  with_flow l f,
  record { answer = refl },
  λ q says. says.answer,
)

-- flowlist::gather
pub flowlist_gather-one : (flows : List Flow)
    → (r : FlowList) × (FlowlistGather flows r)
    × ((q : FlowList) → FlowlistGather flows q → (q ≡ r))
flowlist_gather-one flows = (
  gathered flows (few (length flows)),
  record { answer = refl },
  λ q says. says.answer,
)
