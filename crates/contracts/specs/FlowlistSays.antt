-- The equalities that the contracts of crate `flowlist` state: r is the answer, and x' what a lent x holds afterwards.
-- Made by tools/surface from the source.
use Rattle.std.specs.Prelude.{List, length, ◌≡◌}
use Rattle.flowlist.specs.List.{few, gathered, no_flows, with_flow}
use Rattle.flowlist.specs.declared.Flow.{Flow}
use Rattle.flowlist.specs.declared.FlowList.{FlowList}

-- flowlist::empty
pub record FlowlistEmpty (r : FlowList) : Type 0 where
  pub answer : r ≡ no_flows

-- flowlist::push
pub record FlowlistPush (l : FlowList) (f : Flow) (r : FlowList) : Type 0 where
  pub answer : r ≡ with_flow l f

-- flowlist::gather
pub record FlowlistGather (flows : List Flow) (r : FlowList) : Type 0 where
  pub answer : r ≡ gathered flows (few (length flows))
