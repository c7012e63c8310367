-- `blocklist::read_items` meets its contract: the items that are left, from here, give the whole answer. Assumes nothing.
use Rattle.std.specs.Prelude.{◌≡◌, ◌-◌, length}
use Rattle.positions.specs.Blocked.{empty_set}
use Rattle.blocklist.specs.Read.{list_from}
use Rattle.blocklist.proofs.read_items.Given as goal

abbrev pub invariant-loop : goal.invariant-loop
invariant-loop l = (length l.set ≡ 32) ×
    (list_from (length l.s - l.counter) l.s l.slots l.channels l.set l.at ≡ list_from (length l.s) l.s l.slots l.channels empty_set 0)
