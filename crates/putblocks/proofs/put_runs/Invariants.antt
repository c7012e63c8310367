-- `putblocks::put_runs` meets its contract: what is left of the items, stored from here on, gives the whole. Assumes nothing.
use Rattle.std.specs.Prelude.{◌-◌}
use Rattle.text.proofs.Writing.{Writing}
use Rattle.putblocks.specs.Canon.{side_for, runs_from}
use Rattle.putblocks.specs.Loop.{more_text}
use Rattle.putblocks.proofs.put_runs.Given as goal

abbrev pub invariant-loop : goal.invariant-loop
invariant-loop l = Writing l.initial.out l.at (more_text l.begun (runs_from l.channels (side_for l.slots l.a l.b) l.channels l.x 0)) l.out l.p
    (more_text l.more (runs_from (l.channels - l.counter) (side_for l.slots l.a l.b) l.channels l.x l.f))
