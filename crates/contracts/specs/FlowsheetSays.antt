-- The equalities that the contracts of crate `flowsheet` state: r is the answer, and x' what a lent x holds afterwards.
-- Made by tools/surface from the source.
use Rattle.std.specs.Prelude.{List, ℕ, ◌≡◌}
use Rattle.flowsheet.specs.Read.{read_flows}
use Rattle.flowsheet.specs.declared.FlowsRead.{FlowsRead}

-- flowsheet::read_flows
pub record ReadFlows (bytes : List ℕ) (r : FlowsRead) : Type 0 where
  pub answer : r ≡ read_flows bytes
