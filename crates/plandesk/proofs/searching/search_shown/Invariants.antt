-- The table serves as the one that was lent: with the last limit it gives the same answer, and the same table. The room for text keeps its length.
use Rattle.std.proofs.Common.{length, ◌-◌, ◌<◌, ◌≡◌}
use Rattle.search.specs.Search.{search_answer, search_table}
use Rattle.plandesk.proofs.searching.search_shown.Given as goal

abbrev pub invariant-loop-step : goal.invariant-loop-step
invariant-loop-step l = (0 < l.step) × (length l.text ≡ length l.initial.text) × (length l.table ≡ length l.initial.table)
    × (search_answer l.site l.limit l.table ≡ search_answer l.site l.limit l.initial.table)
    × (search_table l.site l.limit l.table ≡ search_table l.site l.limit l.initial.table)

abbrev pub decreases-loop-step : goal.decreases-loop-step
decreases-loop-step l = l.limit - l.step
