-- `search::gathered` meets its contract: at each head of the loop the word has the bits of the first k fragments. Assumes nothing.
use mathlib.Core.Path.{ap, ◌∙◌}
use native.Mathlib.Omega.{arith}
use lib.Bits.{bit_or}
use Rattle.laws.specs.Bits.{bit_at, bit_in}
use Rattle.search.proofs.Taken.{keeps-none, keeps-join}
use Rattle.search.proofs.gathered.Goals as goal

pub loop-k-init : goal.loop-k-init
loop-k-init c = (omega arith, keeps-none _ _ _ _)

pub loop-k-preserved : goal.loop-k-preserved
loop-k-preserved c = let a = c.args in (
  omega arith,
  λ i. ap (λ w. bit_at (bit_or c.loop-k.word w) i) c.bit_weight-word.ensures
      ∙ keeps-join (bit_in a.clash.now) a.owner.now a.at.now a.c c.loop-k.k c.loop-k.word c.hit.result
      c.hit.ensures c.loop-k.invariant.1 i,
)
