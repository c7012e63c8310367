-- `reachrows::pair_clashes` meets its contract: under rule 2 what the two rows share is a third cell; the check finds the other ways out. Assumes nothing.
use mathlib.Core.Path.{◌∙◌}
use native.Mathlib.Omega.{arith}
use Rattle.reachrows.specs.Rows.{reaches, clash_in}
use Rattle.reachrows.proofs.Rule.{pair-third, pair_laws}
use Rattle.reachrows.proofs.pair_clashes.Goals as goal

pub returns-then-rule-eq2 : goal.returns-then-rule-eq2
unfolding reaches clash_in
returns-then-rule-eq2 c =
    let shared = c.share_third.ensures ∙ pair-third c.args.reach.now c.args.a c.args.b in grind (arith, pair_laws, shared)
