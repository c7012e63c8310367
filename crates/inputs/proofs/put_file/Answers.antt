-- `inputs::put_file` meets its contract: nothing to say of no file or of the one asked for, or what it is. Assumes nothing.
use mathlib.Core.Path.{sym}
use native.Mathlib.Omega.{arith}
use Rattle.phrases.proofs.Put.{put-wide}
use Rattle.inputs.proofs.Cases.{said-nothing, said_same, said-other}
use Rattle.inputs.proofs.put_file.Goals as goal

pub returns-then-a-eq0 : goal.returns-then-a-eq0
returns-then-a-eq0 c = rw (sym (said-nothing c.args.found c.args.asked _ _ c.number_of-a.ensures c.number_of-b.ensures c.if-a-eq0.true))
    (put-wide 1000 (omega arith) c.put.ensures)

pub returns-then-a-b : goal.returns-then-a-b
returns-then-a-b c = rw (sym (said_same c.args.found c.args.asked _ _ c.number_of-a.ensures c.number_of-b.ensures c.if-a-eq0.false c.if-a-b.true))
    (put-wide 1000 (omega arith) c.put-then-a-b.ensures)

pub returns : goal.returns
returns c = rw (sym (said-other c.args.found c.args.asked _ _ c.number_of-a.ensures c.number_of-b.ensures c.if-a-eq0.false c.if-a-b.false))
    c.put_other.ensures
