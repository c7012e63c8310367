-- `packing::short_word` meets its contract: before position b, the word has the positions below it. Assumes nothing.
use mathlib.Core.Path.{◌≡◌, refl, sym, ap₂, ◌∙◌}
use Prim.Native.Nat.{◌-◌}
use native.Mathlib.Omega.{arith}
use lib.Bits.{bit_or}
use lib.ListN.{length}
use Rattle.laws.proofs.Words.{word-zero, word_more}
use Rattle.packing.specs.Packed.{in_row}
use Rattle.packing.proofs.short_word.Goals as goal

pub loop-b-init : goal.loop-b-init
loop-b-init c = (refl, omega arith, sym (word-zero _))

pub loop-b-preserved : goal.loop-b-preserved
loop-b-preserved c = let l = c.loop-b in
    let row = c.args.row.now in
    (l.invariant.0, omega arith, ap₂ bit_or l.invariant.2 c.weight_at-x.ensures ∙ word_more (in_row row) l.b)

pub returns : goal.returns
returns c = let e : c.loop-b.b ≡ length c.args.row.now = omega arith in
    rw e at c.loop-b.invariant.2
