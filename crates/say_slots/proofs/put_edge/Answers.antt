-- `say_slots::put_edge` meets its contract: nothing where a channel is too low, and else the box of the channel. Assumes nothing.
use native.Mathlib.Omega.{arith}
use borrow.Author.Tests.{lt-ltb, le-ltb}
use Rattle.phrases.proofs.Put.{put-none}
use Rattle.drawing.specs.Places.{channel_high}
use Rattle.say_slots.proofs.put_edge.Goals as goal

pub returns-then-high-le7 : goal.returns-then-high-le7
returns-then-high-le7 c = rw (le-ltb 7 (channel_high c.args.site) (omega (arith, c.channel_high-high.ensures, c.if-high-le7.true))) (put-none _ _ _)

pub returns : goal.returns
returns c = rw (lt-ltb 7 (channel_high c.args.site) (omega (arith, c.channel_high-high.ensures, c.if-high-le7.false)))
    (rw (c.down.ensures, c.channel_high-high.ensures) at c.put_box.ensures)
