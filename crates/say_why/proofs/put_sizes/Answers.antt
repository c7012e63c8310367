-- `say_why::put_sizes` meets its contract: the slots, and then the channels. Assumes nothing.
use native.Mathlib.Omega.{arith}
use Rattle.site.proofs.Faults.{fine-sized}
use Rattle.phrases.proofs.Put.{put_both, put-none}
use Rattle.say_why.proofs.put_sizes.Goals as goal

pub size_phrase-slots-requires : goal.size_phrase-slots-requires
size_phrase-slots-requires c = let z = fine-sized _ c.requires.site_value in (omega arith, omega (arith, z.channels_some, z.slots_some))

pub size_phrase-channels-requires : goal.size_phrase-channels-requires
size_phrase-channels-requires c = let z = fine-sized _ c.requires.site_value in
    (omega arith, omega (arith, z.channels_some, z.slots_some))

pub returns : goal.returns
returns c = put_both _ _ (rw c.size_phrase-slots.ensures at c.put-middle.ensures)
    (put_both _ _ (rw c.size_phrase-channels.ensures at c.put.ensures) (put-none _ _ 0))
