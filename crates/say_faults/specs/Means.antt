-- What the lines of the faults say, apart from their text: of every fault of a table, and not of the first alone.
use Rattle.std.specs.Prelude.{ℕ, ◌+◌, ◌/◌, ◌%◌, ◌<◌, List, ◌≡◌, get_or}
use Rattle.laws.specs.Sum.{count}
use Rattle.theory.specs.Greedy.{reserved}
use Rattle.theory.specs.Verdict.{TableVerdict, valid, barred, clash, wrong}
use Rattle.site.specs.Record.{positions}
use Rattle.site.specs.declared.Site.{Site}
use Rattle.checker.specs.Check.{verdict_of}
use Rattle.verdicts.specs.Said.{check_said, blocked_sends, count_line}
use Rattle.verdicts.specs.Means.{WaySaid, BothSend, SendsBlocked}

-- 22: the line names the cell, the slot and the channel; the cell sends there, and it is blocked. 6: both cells send in the slot and channel that are named,
-- and who reaches whom is what the line says. 7: the cell sends so often, and the load that is named is its own and another number.
abbrev pub FaultTold : Site → List ℕ → TableVerdict → Type 0
FaultTold s t valid = ⊥
FaultTold s t (barred k i) =
    (check_said s (verdict_of (barred k i)) ≡ blocked_sends (i + 1) (k / s.channels + 1) (k % s.channels + 1))
    × SendsBlocked s t k (i + 1) (k / s.channels + 1) (k % s.channels + 1)
FaultTold s t (clash k a c) =
    WaySaid s (a + 1) (c + 1) (k / s.channels + 1) (k % s.channels + 1) (check_said s (verdict_of (clash k a c)))
    × BothSend s t k (a + 1) (c + 1) (k / s.channels + 1) (k % s.channels + 1)
FaultTold s t (wrong i n) =
    (check_said s (verdict_of (wrong i n)) ≡ count_line (i + 1) n (get_or s.loads i 0))
    × (i < s.cells) × (n ≡ count (reserved (positions s) t i) (positions s)) × (n ≡ get_or s.loads i 0 → ⊥)
