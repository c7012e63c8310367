-- `numberrows::misses` meets its contract: a word without another is 0 where all its cells are in that. Assumes nothing.
use mathlib.Core.Path.{ap, ◌∙◌}
use mathlib.Core.Bool.{◌&&◌, not}
use Prim.Native.Nat.{ℕ}
use lib.Bits.{bit_or}
use Rattle.laws.specs.Bits.{bit_at, word_of}
use Rattle.laws.proofs.Bits.{one_shl}
use Rattle.numberrows.proofs.Words.{misses-word}
use Rattle.numberrows.proofs.misses.Goals as goal

pub returns : goal.returns
returns c = let args = c.args in
    misses-word args.near args.row args.a c.apart.result
    (c.apart.ensures.0
    ∙ ap (λ (x : ℕ). word_of (λ b. bit_at args.near b && not (bit_at (bit_or args.row x) b)) 32) (one_shl args.a c.requires))
