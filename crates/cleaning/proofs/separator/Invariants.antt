-- `cleaning::separator` meets its contract: what is left of the sheet gives the answer. Assumes nothing.
use Rattle.std.specs.Prelude.{◌≡◌, drop}
use Rattle.cleaning.specs.Clean.{separator_in}
use Rattle.cleaning.proofs.separator.Given as goal

abbrev pub invariant-loop-byte : goal.invariant-loop-byte
invariant-loop-byte l = separator_in l.s ≡ separator_in (drop l.byte-index l.s)
