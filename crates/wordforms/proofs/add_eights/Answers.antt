-- `wordforms::add_eights` meets its contract: before the eight at i, the words have the rows of the cells below i. Assumes nothing.
use Rattle.std.proofs.Common.{◌≡◌, ◌+◌, ◌≤◌, arith}
use native.Mathlib.Nat.{add-mul, mul-le-mul_right}
use Rattle.wordforms.proofs.Rows.{none-gathered, eight-gathered}
use Rattle.wordforms.proofs.add_eights.Goals as goal

pub loop-i-init : goal.loop-i-init
loop-i-init c = (omega arith, none-gathered c.args.n c.args.table.now c.args.words.now c.requires.2 c.requires.4)

pub add_eight-requires : goal.add_eight-requires
add_eight-requires c =
    let ends : c.min-from.result + 8 ≤ c.args.cells = omega arith in
    omega (arith, ends, add-mul c.min-from.result 8 c.args.n, mul-le-mul_right c.args.n ends)

pub loop-i-preserved : goal.loop-i-preserved
loop-i-preserved c = let a = c.args in
    let l = c.loop-i in
    let here : c.min-from.result ≡ l.i = omega arith in (
      omega arith,
      rw here at
          (eight-gathered a.n a.table.now a.words.now l.i c.min-from.result l.words c.add_eight.new.words c.requires.2
          (omega arith) (omega arith) l.invariant.1 c.add_eight.ensures),
    )

pub returns-2 : goal.returns-2
returns-2 c = let a = c.args in
    let l = c.loop-i in
    let all : c.min-from.result + 8 ≡ a.cells = omega arith in
    rw all at
    (eight-gathered a.n a.table.now a.words.now l.i c.min-from.result l.words c.add_eight.new.words c.requires.2
    (omega arith) (omega arith) l.invariant.1 c.add_eight.ensures)
