-- `clashcount::clash_count` meets its contract: the rows' bits below their own cells are the pairs. Assumes nothing.
use mathlib.Core.List.{List}
use mathlib.Core.Path.{ap, ◌∙◌}
use Prim.Native.Nat.{ℕ}
use Rattle.laws.specs.Bits.{bit_in}
use Rattle.laws.specs.Sum.{sum, count}
use Rattle.clashcount.proofs.Pairs.{rows-counted}
use Rattle.clashcount.proofs.clash_count.Goals as goal

pub returns : goal.returns
returns c = c.counted.ensures ∙ ap (λ (rows : List ℕ). sum (λ k. count (bit_in rows k) k) 32) c.clash_rows-clash.ensures.rows ∙ rows-counted _
