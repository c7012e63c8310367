-- `quoting::has_break` meets its contract: before a byte, it is known of those that stand before it. Assumes nothing.
use Rattle.std.specs.Prelude.{◌≡◌, take}
use Rattle.quoting.specs.Names.{has_break}
use Rattle.quoting.proofs.has_break.Given as goal

abbrev pub invariant-loop-byte : goal.invariant-loop-byte
invariant-loop-byte l = l.any ≡ has_break (take l.byte-index l.name)
