-- `site::Site::clash_rows` meets its contract: the rows under rule 2, or of few cells, or of many, are those of the definition, and state the clash relation.
-- Assumes nothing.
use mathlib.Core.Path.{◌≡◌, sym, ap, ◌∙◌}
use Prim.Native.Nat.{ℕ}
use borrow.Author.Tests.{ne_eqb}
use Rattle.reachrows.proofs.Rules.{rule-one}
use Rattle.laws.specs.Bits.{bit_in}
use Rattle.site.specs.Reach.{clash_in, clash_rows}
use Rattle.site.proofs.Rows.{rows_made, rows-clash}
use borrow.Author.Rules.{rules}
use Rattle.site.proofs.Site.clash_rows.Goals as goal

pub returns-then-rule-eq2 : goal.returns-then-rule-eq2
returns-then-rule-eq2 c = let site = c.args.self in
    let n = c.min-cells in
    let rows : c.third_rows.result ≡ clash_rows site = c.third_rows.ensures
    ∙ rows_made site (clash_in 2 site.reach) n.result (ap (λ (r : ℕ). clash_in r site.reach) (sym c.if-rule-eq2.true)) n.ensures in record {
      rows = rows;
      clash = λ fine. ap bit_in rows ∙ rows-clash site fine (search rules);
    }

pub returns-then-cells-gt8 : goal.returns-then-cells-gt8
returns-then-cells-gt8 c = let site = c.args.self in
    let n = c.min-cells in
    let rows : c.many_rows.result ≡ clash_rows site = c.many_rows.ensures
    ∙ rows_made site (clash_in 1 site.reach) n.result (rule-one site.rule site.reach (ne_eqb _ _ c.if-rule-eq2.false)) n.ensures in record {
      rows = rows;
      clash = λ fine. ap bit_in rows ∙ rows-clash site fine (search rules);
    }

pub returns : goal.returns
returns c = let site = c.args.self in
    let n = c.min-cells in
    let rows : c.few_rows.result ≡ clash_rows site = c.few_rows.ensures
    ∙ rows_made site (clash_in 1 site.reach) n.result
    (rule-one site.rule site.reach (ne_eqb _ _ c.if-rule-eq2.false)) n.ensures in record {
      rows = rows;
      clash = λ fine. ap bit_in rows ∙ rows-clash site fine
          (search rules);
    }
