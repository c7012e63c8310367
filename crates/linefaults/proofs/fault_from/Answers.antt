-- `linefaults::fault_from` meets its contract: what is left of the line, looked at from here on, gives the answer. Assumes nothing.
use Rattle.std.proofs.Common.{◌+◌, ◌-◌, ◌≡◌, sym, ap, ◌∙◌, length, take, drop, length-drop, arith}
use Rattle.std.specs.Prelude.{Some}
use Rattle.std.proofs.lemmas.List.{take_all}
use Rattle.linefaults.specs.Fault.{first_field, end_fault, fault_from}
use Rattle.linefaults.proofs.Lines.{look-end, look-told, look-done, look-on}
use Rattle.linefaults.proofs.fault_from.Goals as goal

pub loop-i-init : goal.loop-i-init
loop-i-init c = (omega arith, ap (fault_from c.args.fields 1 first_field) (take_all _ _ (omega (arith, length-drop c.args.from c.args.s.now))))

pub returns-then-is_some : goal.returns-then-is_some
returns-then-is_some c = let l = c.loop-i in
    look-told _ _ (l.i + 1) l.f l.i c.loop-i-test.true c.fault_at-x.result c.fault_at-x.ensures (sym c.is_some.ensures ∙ c.if-is_some.true) ∙ l.invariant.1

pub returns-then-byte-eq-LF : goal.returns-then-byte-eq-LF
returns-then-byte-eq-LF c = let l = c.loop-i in
    look-done _ _ (l.i + 1) l.f l.i c.loop-i-test.true c.fault_at-x.result c.fault_at-x.ensures
    (sym c.is_some.ensures ∙ c.if-is_some.false) c.if-byte-eq-LF.true
    ∙ l.invariant.1

pub loop-i-preserved : goal.loop-i-preserved
loop-i-preserved c = let l = c.loop-i in (
  omega (arith, c.step_after-f.ensures.column_bound, l.invariant.0),
  look-on _ _ (l.i + 1) l.f l.i c.loop-i-test.true c.fault_at-x.result c.fault_at-x.ensures (sym c.is_some.ensures ∙ c.if-is_some.false) c.if-byte-eq-LF.false
      _ c.step_after-f.ensures.value
      ∙ l.invariant.1,
)

pub returns : goal.returns
returns c = let l = c.loop-i in
    let s = c.args.s.now in
    let e : length (take (length s - c.args.from) (drop c.args.from s)) ≡ l.i = omega arith in
    ap Some (c.end_at.ensures ∙ ap (λ n. end_fault (n + 1)) e) ∙ look-end _ _ (l.i + 1) l.f l.i c.loop-i-test.false ∙ l.invariant.1
