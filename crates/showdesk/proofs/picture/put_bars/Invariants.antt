-- The room for text keeps its length.
use Rattle.std.specs.Prelude.{◌≡◌, length}
use Rattle.showdesk.proofs.picture.put_bars.Given as goal

abbrev pub invariant-loop-i : goal.invariant-loop-i
invariant-loop-i l = length l.text ≡ length l.initial.text
