-- `say_range::put_lines` meets its contract: before a cell, the lines to the cells below it are put. Assumes nothing.
use Prim.Native.Nat.{◌+◌, ◌*◌}
use native.Mathlib.Omega.{arith}
use Rattle.faults.specs.Faults.{in_turn}
use Rattle.faults.proofs.InTurn.{turn_more}
use Rattle.phrases.specs.Phrases.{phrase}
use Rattle.phrases.proofs.Put.{put_both, put-wide, put-none}
use Rattle.drawing.specs.Range.{reach_lines, line_phrase, lines_of}
use Rattle.say_range.proofs.put_lines.Goals as goal

pub loop-b-init : goal.loop-b-init
unfolding in_turn
loop-b-init c = put-none _ _ _

pub loop-b-preserved : goal.loop-b-preserved
loop-b-preserved c = let a = c.args in
    let k = c.loop-b.b in
    rw (turn_more (λ b. phrase reach_lines (line_phrase a.site a.a b)) k)
    (put-wide (500 * (k + 1)) (omega arith)
    (put_both (lines_of a.site a.a k) _ c.loop-b.invariant (rw c.line_phrase.ensures at c.put_line-next.ensures)))
