-- `inputs::begins` meets its contract: a text that is eaten ends somewhere. Assumes nothing.
use Prim.Native.Nat.{◌<◌}
use native.Mathlib.Omega.{arith}
use lib.ListN.{length}
use Rattle.lines.specs.Match.{nowhere}
use Rattle.inputs.proofs.Eaten.{eaten-not, eaten-all}
use Rattle.inputs.proofs.begins.Goals as goal

pub returns-then-end : goal.returns-then-end
returns-then-end c =
    let short : length c.args.text.now < nowhere = omega arith in
    eaten-not _ _ _ short c.eat_text-end.ensures c.if-end.true

pub returns : goal.returns
returns c = eaten-all _ _ _ c.eat_text-end.ensures c.if-end.false
