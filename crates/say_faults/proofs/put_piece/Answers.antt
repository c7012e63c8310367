-- `say_faults::put_piece` meets its contract: before cell i, the lines of the cells below it are put. Assumes nothing.
use Prim.Native.Nat.{◌+◌, ◌*◌}
use mathlib.Core.Path.{◌≡◌}
use native.Mathlib.Omega.{arith}
use Rattle.faults.specs.Faults.{in_turn}
use Rattle.phrases.proofs.Put.{put_both, put-wide, put-none, put-long}
use Rattle.say_faults.specs.Said.{faults_said, piece_said}
use Rattle.say_faults.proofs.Ready.{ready-sizes}
use Rattle.say_faults.proofs.Said.{piece-more}
use Rattle.say_faults.proofs.put_piece.Goals as goal

pub loop-i-init : goal.loop-i-init
unfolding in_turn faults_said
loop-i-init c = put-none _ _ _

pub put_shown-next-requires-clause-at_in_bounds : goal.put_shown-next-requires-clause-at_in_bounds
put_shown-next-requires-clause-at_in_bounds c = let p = c.loop-i.invariant in
    let most = (ready-sizes c.args.site c.args.table.now c.requires.0).cells_most in
    omega (arith, put-long p, p.follows, p.short, c.requires.3, most)

pub loop-i-preserved : goal.loop-i-preserved
loop-i-preserved c = let a = c.args in
    let i = c.loop-i.i in
    let so_far = piece_said a.site a.table.now a.piece i in
    rw (piece-more a.site a.table.now a.piece i)
    (put-wide (2000 * (i + 1)) (omega arith) (put_both so_far _ c.loop-i.invariant c.put_shown-next.ensures))

pub returns : goal.returns
returns c = let e : c.loop-i.i ≡ c.args.site.cells = omega arith in
    let most = (ready-sizes c.args.site c.args.table.now c.requires.0).cells_most in
    put-wide 64000 (omega arith) (rw e at c.loop-i.invariant)
