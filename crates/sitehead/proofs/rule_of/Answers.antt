-- `sitehead::rule_of` meets its contract: the kind decides where the rule stands. Assumes nothing.
use mathlib.Core.Bool.{true}
use mathlib.Core.Path.{◌≡◌, sym, ap, ◌∙◌}
use native.Mathlib.Omega.{arith}
use borrow.Author.Tests.{eq-eqb, ne_eqb}
use lib.Dec.{eqb}
use Rattle.laws.specs.Choice.{pick}
use Rattle.sitehead.specs.Head.{is_ruled, rule_stated}
use Rattle.sitehead.proofs.Head.{site-head-read}
use Rattle.sitehead.proofs.rule_of.Goals as goal

pub two_bytes-kind-requires : goal.two_bytes-kind-requires
two_bytes-kind-requires c = omega (arith, (site-head-read _ c.requires).long)

pub two_bytes-requires : goal.two_bytes-requires
two_bytes-requires c =
    let ruled : is_ruled c.args.s.now ≡ true = ap (λ n. eqb n 5) (sym c.two_bytes-kind.ensures) ∙ eq-eqb _ _ c.if-kind-eq-RULED_KIND.true in
    omega (arith, (site-head-read _ c.requires).whole ruled)

pub returns-then-kind-eq-RULED_KIND : goal.returns-then-kind-eq-RULED_KIND
returns-then-kind-eq-RULED_KIND c =
    let ruled : is_ruled c.args.s.now ≡ true = ap (λ n. eqb n 5) (sym c.two_bytes-kind.ensures) ∙ eq-eqb _ _ c.if-kind-eq-RULED_KIND.true in
    c.two_bytes.ensures ∙ ap (λ t. pick t (rule_stated c.args.s.now) 1) (sym ruled)

pub returns : goal.returns
returns c = ap (λ t. pick t (rule_stated c.args.s.now) 1)
    (sym (ap (λ n. eqb n 5) (sym c.two_bytes-kind.ensures) ∙ ne_eqb _ _ c.if-kind-eq-RULED_KIND.false))
