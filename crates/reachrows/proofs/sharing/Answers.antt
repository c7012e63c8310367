-- `reachrows::sharing` meets its contract: before row b, the word of the rows below b that share a bit with x. Assumes nothing.
use mathlib.Core.Path.{sym, ap, ◌∙◌}
use mathlib.Core.Bool.{◌&&◌}
use Prim.Native.Nat.{◌^◌, ◌<◌}
use native.Mathlib.Omega.{arith}
use lib.ListN.{get_or}
use Rattle.laws.specs.Bits.{bit_at, bit_in}
use Rattle.laws.specs.Choice.{pick}
use Rattle.laws.specs.Bits.{set_bit}
use Rattle.laws.specs.Sum.{any}
use Rattle.laws.proofs.Words.{word-zero, word-join}
use Rattle.reachrows.proofs.Rule.{shared}
use borrow.Author.Rules.{rules}
use Rattle.reachrows.proofs.sharing.Goals as goal

pub loop-b-init : goal.loop-b-init
loop-b-init c = (omega arith, sym (word-zero _))

pub loop-b-preserved : goal.loop-b-preserved
loop-b-preserved c = let a = c.args in
    let fits : a.x < 2 ^ 32 = search rules in (
      omega arith,
      c.joined-word.ensures
          ∙ ap (λ t. pick t (set_bit c.loop-b.word c.loop-b.b) c.loop-b.word) (shared a.x (get_or a.rows.now c.loop-b.b 0) fits)
          ∙ word-join (λ k. any (λ c. bit_at a.x c && bit_in a.rows.now k c) 32) c.loop-b.b c.loop-b.word c.loop-b.invariant.1,
    )
