-- The room for text keeps its length.
use Rattle.std.specs.Prelude.{◌≡◌, length}
use Rattle.showdesk.proofs.picture.put_reach.Given as goal

abbrev pub invariant-loop-a : goal.invariant-loop-a
invariant-loop-a l = length l.text ≡ length l.initial.text
