-- `putblocks::put_blocked` meets its contract: what is left of the items, stored from here on, gives the whole. Assumes nothing.
use Rattle.std.specs.Prelude.{◌-◌}
use Rattle.text.proofs.Writing.{Writing}
use Rattle.putblocks.specs.Canon.{slots_from, blocked_text}
use Rattle.putblocks.specs.Loop.{more_text}
use Rattle.putblocks.proofs.put_blocked.Given as goal

abbrev pub invariant-loop : goal.invariant-loop
invariant-loop l = Writing l.initial.out l.at (blocked_text l.set l.slots l.channels) l.out l.p
    (more_text l.begun (slots_from (l.slots - l.counter) l.set l.slots l.channels l.t))
