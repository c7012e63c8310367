-- `reachrows::share_third` meets its contract: the two rows share a bit exactly where some bit is in both. Assumes nothing.
use mathlib.Core.Path.{ap₂, ◌∙◌}
use mathlib.Core.Bool.{◌&&◌}
use Prim.Native.Nat.{ℕ, ◌<◌, ◌^◌}
use Rattle.laws.specs.Bits.{bit_at}
use Rattle.laws.specs.Sum.{any}
use Rattle.reachrows.proofs.Rule.{shared}
use borrow.Author.Rules.{rules}
use Rattle.reachrows.proofs.share_third.Goals as goal

pub returns : goal.returns
returns c = let x = c.without_bit.result in
    let y = c.without_bit-2.result in
    let fits : x < 2 ^ 32 = search rules in
    shared x y fits ∙ ap₂ (λ (u v : ℕ). any (λ q. bit_at u q && bit_at v q) 32) c.without_bit.ensures c.without_bit-2.ensures
