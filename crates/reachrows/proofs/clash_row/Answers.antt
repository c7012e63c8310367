-- `reachrows::clash_row` meets its contract: the bits of the two words joined, but for the cell's own. Assumes nothing.
use mathlib.Core.Path.{ap, ◌∙◌}
use mathlib.Core.Bool.{not, ◌&&◌, ◌||◌}
use lib.Bits.{bit_or}
use lib.Dec.{eqb}
use Rattle.laws.specs.Bits.{bit_at}
use Rattle.laws.proofs.Bits.{bit-clear, bit-either}
use Rattle.laws.proofs.Words.{word-eq}
use Rattle.reachrows.proofs.clash_row.Goals as goal

pub returns : goal.returns
returns c = let a = c.args in
    c.lowest.ensures
    ∙ word-eq (bit_at c.without_bit.result) (λ b. not (eqb b a.a) && (bit_at a.reaches b || bit_at a.reached b)) a.cells (λ b l.
    ap (λ x. bit_at x b) c.without_bit.ensures
    ∙ bit-clear (bit_or a.reaches a.reached) a.a b
    ∙ ap (λ t. not (eqb b a.a) && t) (bit-either a.reaches a.reached b))
