-- `say_flows::worth_of` meets its contract: the sum of the values passed. Assumes nothing.
use Rattle.std.proofs.Common.{ℕ, ◌+◌, refl, ap, ap₂, ◌∙◌, arith, add-one, get_or-take}
use Rattle.laws.specs.Bits.{bit_at}
use Rattle.laws.specs.Choice.{pick}
use Rattle.laws.specs.Sum.{sum}
use Rattle.flowlist.specs.List.{zero_flow}
use Rattle.flowlist.specs.declared.Flow.{Flow}
use Rattle.say_flows.proofs.worth_of.Goals as goal

pub loop-k-init : goal.loop-k-init
unfolding sum
loop-k-init c = (omega arith, refl)

pub loop-k-preserved : goal.loop-k-preserved
unfolding sum
loop-k-preserved c = let a = c.args in
    let k = c.loop-k.k in
    let same = get_or-take a.count a.l.list k zero_flow (omega arith) in
    let e = c.value_in-w.ensures.0 ∙ ap (λ (f : Flow). pick (bit_at a.set k) f.value 0) same in (
      omega (arith, c.value_in-w.ensures.1),
      rw (add-one k) (ap₂ (λ (m n : ℕ). m + n) c.loop-k.invariant.1 e),
    )
