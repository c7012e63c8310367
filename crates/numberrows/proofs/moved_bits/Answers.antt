-- `numberrows::moved_bits` meets its contract: before cell b, the bits of the cells below b are moved. Assumes nothing.
use mathlib.Core.Path.{◌≡◌, sym, ap₂, ◌∙◌}
use Prim.Native.Nat.{◌^◌}
use native.Mathlib.Omega.{arith}
use lib.Bits.{bit_or}
use Rattle.laws.specs.Bits.{bit_at}
use Rattle.laws.specs.Choice.{pick}
use Rattle.laws.proofs.Words.{word-zero, word_more}
use Rattle.renumbering.specs.Numbering.{index_at}
use Rattle.numberrows.proofs.moved_bits.Goals as goal

pub loop-b-init : goal.loop-b-init
loop-b-init c = (omega arith, sym (word-zero _))

pub cell_at-requires : goal.cell_at-requires
cell_at-requires c = let names = c.requires.1 c.loop-b.b c.loop-b-test.true in
    (omega arith, names.0, omega (arith, names.1))

pub moved_bit-word-requires : goal.moved_bit-word-requires
moved_bit-word-requires c = (omega (arith, c.cell_at.ensures.1), omega (arith, c.cell_at.ensures.1))

pub loop-b-preserved : goal.loop-b-preserved
loop-b-preserved c = let a = c.args in (
  omega arith,
  ap₂ bit_or c.loop-b.invariant.1
      (c.moved_bit-word.ensures ∙ (λ j. pick (bit_at a.row (c.cell_at.ensures.0 j)) (2 ^ c.loop-b.b) 0))
      ∙ word_more (λ k. bit_at a.row (index_at a.old.now k)) c.loop-b.b,
)

pub returns : goal.returns
returns c = let e : c.loop-b.b ≡ c.args.cells = omega arith in
    rw e at c.loop-b.invariant.1
