-- `words::apart` meets its contract: a number with the bits of a word is that word. Assumes nothing.
use mathlib.Core.Path.{ap, ◌∙◌}
use mathlib.Core.Bool.{◌&&◌, not}
use Prim.Native.Nat.{◌-◌, ◌<◌, ◌^◌}
use native.Mathlib.Omega.{arith}
use lib.Bits.{bit_and, and_le_l}
use Rattle.laws.specs.Bits.{bit_at}
use Rattle.laws.proofs.Bits.{bit-and}
use Rattle.laws.proofs.Lowest.{bit_not}
use Rattle.laws.proofs.Words.{bits-eq}
use borrow.Author.Rules.{rules}
use Rattle.words.proofs.apart.Goals as goal

pub returns : goal.returns
returns c =
    let small : c.args.word < 2 ^ 32 = search rules in
    let fits : c.args.other < 2 ^ 32 = search rules in
    let word = c.args.word in
    let other = c.args.other in (
      bits-eq (λ b. bit_at word b && not (bit_at other b)) (bit_and word (2 ^ 32 - 1 - other)) 32 (omega (arith, and_le_l word (2 ^ 32 - 1 - other), small))
          (λ b l. bit-and word (2 ^ 32 - 1 - other) b ∙ ap (λ t. bit_at word b && t) (bit_not 32 other b fits l)),
      and_le_l word (2 ^ 32 - 1 - other),
    )
