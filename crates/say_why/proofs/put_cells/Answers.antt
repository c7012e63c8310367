-- `say_why::put_cells` meets its contract: before cell j, the lines of the cells below it are put, and the row of a cell is short. Assumes nothing.
use Prim.Native.Nat.{◌+◌, ◌*◌}
use native.Mathlib.Omega.{arith}
use lib.ListN.{get_or}
use Rattle.phrases.proofs.Put.{put_both, put-wide, put-none}
use Rattle.why.specs.Said.{cell_phrases, texts}
use Rattle.say_why.proofs.Texts.{cells-more, cell_room}
use Rattle.say_why.proofs.put_cells.Goals as goal

pub loop-j-init : goal.loop-j-init
unfolding cell_phrases
loop-j-init c = put-none _ _ _

pub put_line-next-requires : goal.put_line-next-requires
put_line-next-requires c = let i = c.loop-j.invariant in
    let j = c.loop-j.j in
    rw c.cell_phrase.ensures (omega (arith, cell_room c.args.set (get_or c.args.loads.now j 0) j, i.follows, i.short, c.requires))

pub loop-j-preserved : goal.loop-j-preserved
loop-j-preserved c = let j = c.loop-j.j in
    let load = get_or c.args.loads.now j 0 in
    let more = cells-more c.args.loads.now c.args.set j in
    let below = texts (cell_phrases c.args.loads.now c.args.set j) in
    rw more (put-wide (200 * (j + 1)) (omega (arith, cell_room c.args.set load j))
    (put_both below _ c.loop-j.invariant (rw c.cell_phrase.ensures at c.put_line-next.ensures)))
