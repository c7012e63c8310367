-- The room for text keeps its length.
use Rattle.std.specs.Prelude.{◌≡◌, length}
use Rattle.showdesk.proofs.picture.put_marks.Given as goal

abbrev pub invariant-loop-mark : goal.invariant-loop-mark
invariant-loop-mark l = length l.text ≡ length l.initial.text
