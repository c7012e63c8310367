-- The room for text keeps its length.
use Rattle.std.specs.Prelude.{◌≡◌, length}
use Rattle.showdesk.proofs.picture.put_channels.Given as goal

abbrev pub invariant-loop-channel : goal.invariant-loop-channel
invariant-loop-channel l = length l.text ≡ length l.initial.text
