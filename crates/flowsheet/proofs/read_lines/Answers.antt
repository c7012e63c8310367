-- `flowsheet::read_lines` meets its contract: the flows of what is left, from here, are the whole answer. Assumes nothing.
use Rattle.std.proofs.Common.{suc, ◌-◌, ◌≡◌, ap, ◌∙◌, arith}
use Rattle.flowlist.specs.declared.FlowList.{FlowList}
use Rattle.flowsheet.proofs.Reading.{none_yet, ended, full, stopped, passed}
use Rattle.flowsheet.proofs.read_lines.Goals as goal

pub loop-p-init : goal.loop-p-init
loop-p-init c = none_yet _ c.empty-l.ensures c.args.s.now c.args.at

pub returns-then-l-ge16 : goal.returns-then-l-ge16
returns-then-l-ge16 c = c.too_many.ensures ∙ full _ c.loop-p.p (omega arith) (16 - c.loop-p.l.count) c.loop-p.l (omega arith) ∙ c.loop-p.invariant.1

pub returns-in_default : goal.returns-in_default
returns-in_default c =
    let left = 15 - c.loop-p.l.count in
    let e : 16 - c.loop-p.l.count ≡ suc left = omega arith in
    c.bad_at.ensures
    ∙ stopped _ c.loop-p.p (omega arith) c.read_flow.result c.read_flow.ensures left c.loop-p.l c.in_default.is
    ∙ rw e at c.loop-p.invariant.1

pub loop-p-smaller : goal.loop-p-smaller
loop-p-smaller c = let n = ap (λ (x : FlowList). x.count) c.push-l.ensures in omega (arith, n)

pub loop-p-preserved : goal.loop-p-preserved
loop-p-preserved c =
    let n = ap (λ (x : FlowList). x.count) c.push-l.ensures in
    let e : 16 - c.loop-p.l.count ≡ suc (16 - c.push-l.result.count) = omega (arith, n) in (
      omega (arith, n),
      passed _ c.loop-p.p (omega arith) c.read_flow.result c.read_flow.ensures (16 - c.push-l.result.count) c.loop-p.l
          c.in-Some.line c.in-Some.is c.push-l.result c.push-l.ensures
          ∙ rw e at c.loop-p.invariant.1,
    )

pub returns : goal.returns
returns c = ended _ c.loop-p.p (omega arith) (16 - c.loop-p.l.count) c.loop-p.l ∙ c.loop-p.invariant.1
