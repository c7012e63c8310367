-- `sheet::read_cells` meets its contract: the invariant is `Reading`: where the reader stands, that no line before is bad, and what was read. Assumes nothing.
use native.Mathlib.Omega.{arith}
use mathlib.Core.List.{[]}
use mathlib.Core.Path.{sym, ◌∙◌}
use Rattle.sheet.proofs.Reading.{begun, stopped, passed, extra, finished}
use Rattle.sheet.proofs.read_cells.Goals as goal

pub loop-k-init : goal.loop-k-init
loop-k-init c = begun c.args.s.now c.args.at c.args.n

pub returns-in_default : goal.returns-in_default
returns-in_default c =
    let w = c.loop-k in
    c.bad_at.ensures
    ∙ stopped _ _ _ w.loads w.reach w.p w.k _ _ _ _ w.invariant (sym c.in_default.is ∙ c.read_line.ensures) (omega arith)

pub loop-k-preserved : goal.loop-k-preserved
loop-k-preserved c =
    let w = c.loop-k in
    passed _ _ _ w.loads w.reach w.p w.k 0 0 [] 0 w.invariant c.in-Some.line (sym c.in-Some.is ∙ c.read_line.ensures) (omega arith)

pub returns-then-p-s : goal.returns-then-p-s
returns-then-p-s c =
    let w = c.loop-k in
    c.bad_at-then-p-s.ensures ∙ extra _ _ _ w.loads w.reach w.p w.k _ _ _ _ w.invariant (omega arith) (omega arith)

pub returns : goal.returns
returns c =
    let w = c.loop-k in
    c.judge.ensures ∙ finished _ _ _ w.loads w.reach w.p w.k _ _ _ _ w.invariant (omega arith) (omega arith)
