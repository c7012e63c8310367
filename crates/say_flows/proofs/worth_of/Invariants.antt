-- `say_flows::worth_of` meets its contract: the sum of the values passed. Assumes nothing.
use Rattle.std.specs.Prelude.{◌*◌, ◌≡◌, ◌≤◌, get_or}
use Rattle.flowlist.specs.List.{zero_flow}
use Rattle.admitting.specs.Best.{total}
use Rattle.say_flows.proofs.worth_of.Given as goal

abbrev pub invariant-loop-k : goal.invariant-loop-k
invariant-loop-k l = (l.w ≤ 65535 * l.k) × (l.w ≡ total (λ i. (get_or l.fn.l.list i zero_flow).value) l.k l.set)
