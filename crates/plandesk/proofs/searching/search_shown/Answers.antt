-- `plandesk::searching::search_shown` meets its contract: an answer that is not "limit met" is that of the last limit, and after "limit met" the table serves
-- as
-- the one before did. Assumes nothing.
use Rattle.std.proofs.Common.{rules, ◌≡◌, true, false}
use mathlib.Core.Path.{sym, ap, ◌∙◌}
use native.Mathlib.Omega.{arith}
use Rattle.search.specs.Search.{search_answer, search_table}
use Rattle.plandesk.specs.Met.{is_limit}
use Rattle.plandesk.proofs.searching.Rising.{settled, resumed}
use Rattle.plandesk.proofs.searching.search_shown.Goals as goal

pub returns-then-not-met-clause-answer : goal.returns-then-not-met-clause-answer
returns-then-not-met-clause-answer c =
    let l = c.loop-step in
    let e = c.search-reply.ensures in
    let m : is_limit (search_answer c.args.site l.step l.table) ≡ false = sym (ap is_limit e.answer) ∙ sym c.met.ensures ∙ c.if-not-met.true in
    let w = settled c.args.site l.step c.args.limit l.table m (omega (arith, c.loop-step-test.true)) in
    e.answer ∙ sym w.0 ∙ l.invariant.3

pub returns-then-not-met-clause-table : goal.returns-then-not-met-clause-table
returns-then-not-met-clause-table c =
    let l = c.loop-step in
    let e = c.search-reply.ensures in
    let m : is_limit (search_answer c.args.site l.step l.table) ≡ false = sym (ap is_limit e.answer) ∙ sym c.met.ensures ∙ c.if-not-met.true in
    let w = settled c.args.site l.step c.args.limit l.table m (omega (arith, c.loop-step-test.true)) in
    e.table ∙ sym w.1 ∙ l.invariant.4

pub loop-step-preserved : goal.loop-step-preserved
loop-step-preserved c =
    let l = c.loop-step in
    let a = c.args in
    let e = c.search-reply.ensures in
    let m : is_limit (search_answer a.site l.step l.table) ≡ true = sym (ap is_limit e.answer) ∙ sym c.met.ensures ∙ c.if-not-met.false in
    let r = resumed a.site l.step a.limit l.table m in (
      search rules,
      search rules,
      search rules,
      ap (search_answer a.site a.limit) e.table ∙ r.0 ∙ l.invariant.3,
      ap (search_table a.site a.limit) e.table ∙ r.1 ∙ l.invariant.4,
    )
