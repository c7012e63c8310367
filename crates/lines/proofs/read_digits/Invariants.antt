-- `lines::read_digits` meets its contract: what is left of the input, scanned on from here, gives the number, and the digits so far are those that the writer
-- gives for it, since the first is not 0. Assumes nothing.
use Rattle.std.specs.Prelude.{◌≡◌, ◌<◌, drop}
use Rattle.text.specs.Decimal.{decimal}
use Rattle.lines.specs.Match.{eaten}
use Rattle.lines.specs.Content.{scanned}
use Rattle.lines.proofs.read_digits.Given as goal

abbrev pub invariant-loop-next : goal.invariant-loop-next
invariant-loop-next l = (0 < l.value) × (l.value < 100000) × (scanned l.value (drop l.next l.s) ≡ scanned 0 (drop l.at l.s))
    × (l.next ≡ eaten l.s l.at (decimal l.value))
