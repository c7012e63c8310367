-- `say_flows::put_taken` meets its contract: what is set aside, the lines of the flows, and then what they are worth. Assumes nothing.
use native.Mathlib.Omega.{arith}
use Rattle.phrases.proofs.Put.{put_both, put-wide}
use Rattle.say_flows.proofs.put_taken.Goals as goal

pub returns : goal.returns
returns c = put-wide 12000 (omega (arith, c.requires.0))
    (put_both _ _ c.put-first.ensures (put_both _ _ c.put_flows-middle.ensures (rw c.worth_of-w.ensures at c.put.ensures)))
