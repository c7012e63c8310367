-- `blocklist::joined` meets its contract: before bit b, the word has the positions below it. Assumes nothing.
use lib.Bits.{bit_or}
use Rattle.laws.specs.Choice.{pick}
use Rattle.laws.proofs.Words.{word_more}
use Rattle.blocklist.proofs.Steps.{word-joined}
use mathlib.Core.Path.{◌≡◌, refl, ap, ap₂, ◌∙◌}
use mathlib.Core.Bool.{Bool}
use Prim.Native.Nat.{ℕ, ◌+◌, ◌*◌, ◌^◌, ◌<◌}
use native.Mathlib.Omega.{arith}
use Rattle.laws.specs.Bits.{word_of}
use Rattle.laws.specs.Sum.{sum}
use Rattle.blocklist.specs.Read.{covers}
use borrow.Author.Rules.{rules}
use Rattle.blocklist.proofs.joined.Goals as goal

pub loop-b-init : goal.loop-b-init
unfolding word_of sum
loop-b-init c = (omega arith, refl)

pub loop-b-preserved : goal.loop-b-preserved
loop-b-preserved c = let p : ℕ → Bool = λ i. covers c.args.channels c.args.block (64 * c.args.j + i) in (
  omega arith,
  ap₂ bit_or c.loop-b.invariant.1 (c.bit_weight-y.ensures ∙ ap (λ t. pick t (2 ^ c.loop-b.b) 0) c.covered-t.ensures)
      ∙ word_more p c.loop-b.b,
)

pub returns : goal.returns
returns c =
    let small : c.args.x < 2 ^ 64 = search rules in
    let p : ℕ → Bool = λ i. covers c.args.channels c.args.block (64 * c.args.j + i) in
    let e : c.loop-b.b ≡ 64 = omega arith in
    word-joined p c.args.x c.loop-b.y small (c.loop-b.invariant.1 ∙ ap (word_of p) e)
