-- `blockbits::put_bits` meets its contract: before byte j, the bytes below it are stored. Assumes nothing.
use Rattle.std.specs.Prelude.{◌≡◌}
use Rattle.std.proofs.lemmas.List.Edits.{sets}
use Rattle.laws.specs.Part.{list_of}
use Rattle.blockbits.specs.Blocks.{block_byte}
use Rattle.blockbits.proofs.put_bits.Given as goal

abbrev pub invariant-loop-j : goal.invariant-loop-j
invariant-loop-j l = l.out ≡ sets l.initial.out l.at (list_of (block_byte l.set) l.j)
