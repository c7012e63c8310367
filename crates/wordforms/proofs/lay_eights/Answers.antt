-- `wordforms::lay_eights` meets its contract: before cell i, the rows of the cells below i are written, and what is past them is as it was. Assumes nothing.
use Rattle.std.proofs.Common.{◌≡◌, ◌+◌, ◌*◌, ◌≤◌, ◌∙◌, arith}
use native.Mathlib.Nat.{add-mul, mul-le-mul_right}
use Rattle.laws.proofs.Part.{back}
use Rattle.wordforms.specs.Words.{sends_at}
use Rattle.wordforms.proofs.Rows.{none-scattered, more-scattered}
use Rattle.wordforms.proofs.lay_eights.Goals as goal

pub loop-i-init : goal.loop-i-init
loop-i-init c = let a = c.args in
    (omega arith, none-scattered a.n (sends_at a.words.now) a.table.now)

pub slice_bounds-lay_eight-end : goal.slice_bounds-lay_eight-end
slice_bounds-lay_eight-end c = let last = c.min-last.result in
    let ends : c.loop-i.i + (last + 1) ≤ c.args.cells = omega arith in
    omega (arith, add-mul last 1 c.args.n, add-mul c.loop-i.i (last + 1) c.args.n, mul-le-mul_right c.args.n ends)

pub loop-i-preserved : goal.loop-i-preserved
loop-i-preserved c = let a = c.args in
    let l = c.loop-i in
    let last = c.min-last.result in
    let whole : l.i + (last + 1) ≡ l.i + 8 = omega arith in (
      omega arith,
      rw whole at
          (back (l.i * a.n) (last * a.n + a.n) l.table c.lay_eight.new.rows
          ∙ more-scattered a.n (sends_at a.words.now) a.table.now l.i (last + 1) (last * a.n + a.n) l.table c.lay_eight.new.rows
          (omega (arith, add-mul last 1 a.n)) l.invariant.1 c.lay_eight.ensures),
    )

pub returns-2 : goal.returns-2
returns-2 c = let a = c.args in
    let l = c.loop-i in
    let last = c.min-last.result in
    let all : l.i + (last + 1) ≡ a.cells = omega arith in
    rw all at
    (back (l.i * a.n) (last * a.n + a.n) l.table c.lay_eight.new.rows
    ∙ more-scattered a.n (sends_at a.words.now) a.table.now l.i (last + 1) (last * a.n + a.n) l.table c.lay_eight.new.rows
    (omega (arith, add-mul last 1 a.n)) l.invariant.1 c.lay_eight.ensures)
