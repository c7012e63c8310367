-- A list of flow records, and its first 16 flows in an array.
use Rattle.std.specs.Prelude.{ℕ, zero, suc, min, ◌+◌, List, get_or, set, replicate}
use Rattle.flowlist.specs.declared.Flow.{Flow}
use Rattle.flowlist.specs.declared.FlowList.{FlowList}

-- a flow of zeros
abbrev pub zero_flow : Flow
zero_flow = record { cell = 0; burst = 0; period = 0; repeats = 0; value = 0 }

-- the flow at place k; zeros past the end
abbrev pub flow_at : List Flow → ℕ → Flow
flow_at fs k = get_or fs k zero_flow

-- no flows yet
unfoldable pub no_flows : FlowList
no_flows = record { list = replicate 16 zero_flow; count = 0 }

-- one flow more
abbrev pub with_flow : FlowList → Flow → FlowList
with_flow l f = record { list = set l.list l.count f; count = l.count + 1 }

-- the first n flows
unfoldable pub gathered : List Flow → ℕ → FlowList
gathered fs zero = no_flows
gathered fs (suc n) = with_flow (gathered fs n) (flow_at fs n)

-- n, and 16 where n is more
abbrev pub few : ℕ → ℕ
few n = min n 16
