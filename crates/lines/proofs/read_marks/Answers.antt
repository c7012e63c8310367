-- `lines::read_marks` meets its contract: the row of the marks from 4 i on, which stand there; four marks before them are four bits below. Where some do not
-- stand there, not all do. Assumes nothing.
use Rattle.std.proofs.Common.{ℕ, ◌+◌, ◌-◌, ◌*◌, ◌/◌, true, refl, sym, ap₂, ◌∙◌, drop, arith}
use Rattle.lines.proofs.Steps.{marks-bad, marks-short, end-good}
use Rattle.lines.proofs.Fours.{midst-bad, row-there, row-none, four-weigh, four-starts, four-fits, four-small}
use Rattle.lines.proofs.read_marks.Goals as goal

pub returns-then-s-at : goal.returns-then-s-at
returns-then-s-at c = c.no_marks.ensures ∙ marks-short _ _ _ (omega arith) (omega arith)

pub returns-then-s-at-2 : goal.returns-then-s-at-2
returns-then-s-at-2 c = c.no_marks-then-s-at-2.ensures ∙ marks-short _ _ _ (omega arith) (omega arith)

pub returns-then-row-eq16 : goal.returns-then-row-eq16
returns-then-row-eq16 c = let a = c.args in
    let r = drop a.at a.s.now in
    let b = 4 * (a.n / 4) in
    let none = row-none r b (a.n - b) (omega arith) (sym c.last_marks-row.ensures ∙ c.if-row-eq16.true) in
    c.no_marks-then-row-eq16.ensures ∙ marks-bad a.s.now a.at a.n (midst-bad r b (a.n - b) a.n (omega arith) none)

pub loop-i-init : goal.loop-i-init
loop-i-init c = row-there _ _ _ _ c.last_marks-row.ensures c.if-row-eq16.false

pub returns-then-four-eq16 : goal.returns-then-four-eq16
returns-then-four-eq16 c = let a = c.args in
    let r = drop a.at a.s.now in
    let b = 4 * (c.loop-i.i - 1) in
    let none = row-none r b 4 (omega arith) (sym c.four_marks-four.ensures ∙ c.if-four-eq16.true) in
    c.no_marks-then-four-eq16.ensures ∙ marks-bad a.s.now a.at a.n (midst-bad r b 4 a.n (omega arith) none)

pub overflow_mul-row : goal.overflow_mul-row
overflow_mul-row c = let a = c.args in
    let i = c.loop-i.i in
    omega (arith, c.loop-i.invariant.0, four-fits (drop a.at a.s.now) (4 * (i - 1)) (4 * i) a.n (omega arith) (omega arith) (omega arith))

pub overflow_add-row : goal.overflow_add-row
overflow_add-row c = let a = c.args in
    let i = c.loop-i.i in
    let r = drop a.at a.s.now in
    let there = row-there r _ _ _ c.four_marks-four.ensures c.if-four-eq16.false in
    omega (
      arith,
      c.loop-i.invariant.0,
      four-fits r (4 * (i - 1)) (4 * i) a.n (omega arith) (omega arith) (omega arith),
      there.0,
      four-small r (4 * (i - 1)),
    )

pub loop-i-preserved : goal.loop-i-preserved
loop-i-preserved c = let a = c.args in
    let i = c.loop-i.i in
    let r = drop a.at a.s.now in
    let there = row-there r _ _ _ c.four_marks-four.ensures c.if-four-eq16.false in (
      ap₂ (λ (x y : ℕ). 16 * x + y) c.loop-i.invariant.0 there.0 ∙ sym (four-weigh r (4 * (i - 1)) (4 * i) a.n (omega arith) (omega arith)),
      four-starts r (4 * (i - 1)) (4 * i) a.n (omega arith) (omega arith) there.1 c.loop-i.invariant.1,
    )

pub returns : goal.returns
returns c = end-good _ _ _ (4 * c.loop-i.i) c.loop-i.row true (omega arith) (sym c.loop-i.invariant.1) c.loop-i.invariant.0 refl
