-- Each edit is two arguments further on. The room for text keeps its length.
use Rattle.std.proofs.Common.{length, ◌-◌, ◌≡◌}
use Rattle.sitedesk.proofs.set.edits.Given as goal

abbrev pub invariant-loop-name : goal.invariant-loop-name
invariant-loop-name l = length l.text ≡ length l.initial.text

abbrev pub decreases-loop-name : goal.decreases-loop-name
decreases-loop-name l = l.count - l.name
