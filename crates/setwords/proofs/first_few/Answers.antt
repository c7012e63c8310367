-- `setwords::first_few` meets its contract: after some steps, the rest has the positions that have as many or more below them. Assumes nothing.
use Rattle.std.proofs.Common.{arith, ◌≡◌, ◌∙◌}
use Rattle.setwords.proofs.Firsts.{few-rest}
use Rattle.setwords.proofs.first_few.Goals as goal

pub returns : goal.returns
returns c = let l = c.loop in
    let a = c.args in
    let e : l.counter ≡ a.l = omega arith in
    c.without.ensures ∙ few-rest a.x l.rest a.l 64 (rw e at l.invariant)
