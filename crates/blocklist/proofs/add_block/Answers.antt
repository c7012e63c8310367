-- `blocklist::add_block` meets its contract: before word j, the words below it are joined. Assumes nothing.
use mathlib.Core.Path.{◌≡◌, ap, ◌∙◌}
use native.Mathlib.Omega.{arith}
use lib.ListN.{length}
use Rattle.laws.proofs.Stores.{sets-none}
use Rattle.blocklist.proofs.Steps.{joined_to, joined-more, joined-all}
use Rattle.blocklist.proofs.add_block.Goals as goal

pub loop-j-init : goal.loop-j-init
loop-j-init c = (omega arith, sets-none _ _)

pub loop-j-preserved : goal.loop-j-preserved
loop-j-preserved c = let e = c.args in
    (omega arith, joined-more e.channels e.block e.set.now c.loop-j.set c.loop-j.j c.joined.result c.loop-j.invariant.1 c.joined.ensures)

pub returns : goal.returns
returns c =
    let long : length c.args.set.now ≡ 32 = omega arith in
    let e = c.args in
    let n : c.loop-j.j ≡ 32 = omega arith in
    c.loop-j.invariant.1 ∙ ap (joined_to e.channels e.block e.set.now) n ∙ joined-all e.channels e.block e.set.now long
