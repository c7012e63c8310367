-- `say_flows::put_flows` meets its contract: before flow k, the lines of the flows before it are put. Assumes nothing.
use Rattle.std.specs.Prelude.{◌*◌, get_or}
use Rattle.flowlist.specs.List.{zero_flow}
use Rattle.phrases.specs.Put.{Put}
use Rattle.say_flows.specs.Said.{list_said}
use Rattle.say_flows.proofs.put_flows.Given as goal

abbrev pub invariant-loop-k : goal.invariant-loop-k
invariant-loop-k l = Put l.initial.out l.at (list_said l.slots l.set (λ i. get_or l.fn.l.list i zero_flow) l.k)
    (600 * l.k) l.out l.next
