-- `flowsheet::read_flows` meets its contract: the first line, then those of the flows. Assumes nothing.
use native.Mathlib.Omega.{arith}
use Prim.Native.Nat.{◌<◌}
use mathlib.Core.Path.{◌≡◌, ◌∙◌}
use lib.ListN.{length}
use Rattle.lines.specs.Match.{nowhere, eaten}
use Rattle.flowsheet.specs.Format.{flow_head}
use Rattle.flowsheet.proofs.Reading.{no-head, after-head}
use Rattle.flowsheet.proofs.Answers.{few-read}
use Rattle.flowsheet.proofs.read_flows.Goals as goal

pub returns-then-at : goal.returns-then-at
returns-then-at c =
    let short : length c.args.bytes.now < nowhere = omega arith in
    let begun : c.eat_text-at.result ≡ eaten c.args.bytes.now 0 flow_head = c.eat_text-at.ensures in
    let e = c.bad_at.ensures ∙ no-head _ short _ begun c.if-at.true in record { read = e; few = rw e (few-read c.args.bytes.now) }

pub returns : goal.returns
returns c =
    let short : length c.args.bytes.now < nowhere = omega arith in
    let begun : c.eat_text-at.result ≡ eaten c.args.bytes.now 0 flow_head = c.eat_text-at.ensures in
    let e = c.read_lines.ensures ∙ after-head _ short _ begun c.if-at.false in record { read = e; few = rw e (few-read c.args.bytes.now) }
