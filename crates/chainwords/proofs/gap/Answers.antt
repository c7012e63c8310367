-- `chainwords::gap` meets its contract: the word has the cells that count and are not in the row. Assumes nothing.
use mathlib.Core.Bool.{not, ◌&&◌}
use mathlib.Core.Path.{ap, ◌∙◌}
use Prim.Native.Nat.{◌+◌, ◌-◌, ◌<◌, ◌^◌}
use native.Mathlib.Omega.{arith}
use lib.Bits.{bit_and}
use Rattle.laws.specs.Bits.{bit_at}
use Rattle.laws.proofs.Lowest.{bit_not}
use Rattle.laws.proofs.Bits.{bit-and}
use Rattle.laws.proofs.Search.{first-same}
use Rattle.chainwords.specs.Chain.{gap_in}
use borrow.Author.Rules.{rules}
use Rattle.chainwords.proofs.gap.Goals as goal

pub returns : goal.returns
unfolding gap_in
returns c =
    let fits : c.args.row < 2 ^ 32 = search rules in
    let row = c.args.row in
    let who = c.args.who in
    c.lowest.ensures
    ∙ first-same (bit_at (bit_and who (2 ^ 32 - 1 - row))) (λ b. bit_at who b && not (bit_at row b)) (c.args.a + 1) c.args.c (omega arith)
    (λ b _ l. bit-and who (2 ^ 32 - 1 - row) b ∙ ap (λ t. bit_at who b && t) (bit_not 32 row b fits (omega arith)))
