-- `numberrows::number_cells` meets its contract: the numbers that are left to give, from the two arrays as they are, come to the whole numbering, and
-- the bits of `left` are the cells with no number. Assumes nothing.
use Rattle.std.specs.Prelude.{◌≡◌, length}
use Rattle.laws.specs.Bits.{bit_in, word_of}
use Rattle.renumbering.specs.Numbering.{unnumbered, give_numbers, numbering}
use Rattle.numberrows.proofs.number_cells.Given as goal

abbrev pub invariant-loop-m : goal.invariant-loop-m
invariant-loop-m l = (length l.new ≡ 32)
    × (length l.old ≡ 32)
    × (l.left ≡ word_of (unnumbered l.new) l.cells)
    × (numbering 32 (bit_in l.rows) l.cells ≡ give_numbers (bit_in l.rows) l.cells l.m l.new l.old)
