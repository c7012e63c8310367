-- `blockbits::set_of` meets its contract: before word j, the words below it are stored, and those past the body are 0. Assumes nothing.
use mathlib.Core.Path.{◌∙◌}
use native.Mathlib.Omega.{arith}
use Rattle.laws.proofs.Stores.{sets-none, sets_more, sets-zeros}
use Rattle.positions.specs.Blocked.{empty_set, word_in}
use Rattle.blockbits.specs.Blocks.{bit_stated, blocked_of_body}
use Rattle.blockbits.proofs.Blocks.{past-body}
use Rattle.blockbits.proofs.set_of.Goals as goal

pub overflow_add-words : goal.overflow_add-words
overflow_add-words c = omega arith

pub loop-j-init : goal.loop-j-init
loop-j-init c = (omega arith, sets-none _ _)

pub loop-j-smaller : goal.loop-j-smaller
loop-j-smaller c = omega arith

pub loop-j-preserved : goal.loop-j-preserved
loop-j-preserved c = let l = c.loop-j in
    let body = c.args.body.now in
    (omega arith, sets_more (word_in (bit_stated body)) l.j c.word_of.result l.set empty_set c.word_of.ensures l.invariant.1)

pub returns : goal.returns
unfolding blocked_of_body
returns c = let l = c.loop-j in
    let body = c.args.body.now in
    l.invariant.1 ∙ sets-zeros (word_in (bit_stated body)) l.j 32 (omega arith) (λ j h _. past-body body j (omega arith))
