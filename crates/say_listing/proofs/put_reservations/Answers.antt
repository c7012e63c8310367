-- `say_listing::put_reservations` meets its contract: before position p, the reservations below it are put. Assumes nothing.
use Rattle.std.proofs.Common.{arith, ◌+◌, ◌*◌, get_or}
use Rattle.phrases.proofs.Put.{put_both, put-wide, put-none}
use Rattle.say_listing.specs.Lines.{reservations}
use Rattle.say_listing.proofs.Steps.{position-more, listed-put}
use Rattle.say_listing.proofs.put_reservations.Goals as goal

pub loop-p-init : goal.loop-p-init
unfolding reservations
loop-p-init c = put-none _ _ _

pub loop-p-preserved : goal.loop-p-preserved
loop-p-preserved c = let p = c.loop-p.p in
    let channels = c.args.channels in
    let row = c.args.row.now in
    let one = listed-put channels p (get_or row p 0) (omega (arith, c.requires.1)) (rw c.listed.ensures at c.put_line-next.ensures) in
    rw (position-more channels row p) (put-wide (10 * (p + 1)) (omega arith) (put_both (reservations channels row p) _ c.loop-p.invariant one))
