-- `blockbits::word_of` meets its contract: before byte i, v is the word of the bytes from i on. Assumes nothing.
use Rattle.std.specs.Prelude.{◌≡◌, ◌+◌, ◌-◌, ◌*◌}
use Rattle.laws.specs.Bits.{word_of}
use Rattle.blockbits.specs.Blocks.{bit_stated}
use Rattle.blockbits.proofs.word_of.Given as goal

abbrev pub invariant-loop-i : goal.invariant-loop-i
invariant-loop-i l = l.v ≡ word_of (λ b. bit_stated l.body (8 * (8 * l.j + l.i) + b)) (8 * (8 - l.i))
