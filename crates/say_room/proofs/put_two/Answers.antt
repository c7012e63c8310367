-- `say_room::put_two` meets its contract: one after the other. Assumes nothing.
use native.Mathlib.Omega.{arith}
use Rattle.phrases.proofs.Put.{put_both, put-long}
use Rattle.say_room.proofs.put_two.Goals as goal

pub put-requires : goal.put-requires
put-requires c = let e = c.put-next.ensures in
    omega (arith, put-long e, e.follows, e.short, c.requires)

pub returns : goal.returns
returns c = put_both _ _ c.put-next.ensures c.put.ensures
