-- `demands::most_demand` meets its contract: before cell i, the greatest of what the cells below i ask. Assumes nothing.
use Rattle.std.proofs.Common.{refl, sym, ap₂, ◌∙◌}
use Rattle.laws.specs.Most.{greater, most}
use Rattle.laws.proofs.Most.{most-more}
use Rattle.demands.proofs.most_demand.Invariants.{asks}
use Rattle.demands.proofs.most_demand.Goals as goal

pub loop-i-init : goal.loop-i-init
unfolding most
loop-i-init c = refl

pub loop-i-preserved : goal.loop-i-preserved
loop-i-preserved c = let args = c.args in
    c.greater-greatest.ensures
    ∙ ap₂ greater c.loop-i.invariant c.asked.ensures
    ∙ sym (most-more (asks args.loads.now args.clash.now args.who) c.loop-i.i)
