-- `changelist::list_cell` meets its contract: at the head of the loop the changes of the words below j are stored and listed. Assumes nothing.
use mathlib.Core.Path.{◌≡◌, refl, ◌∙◌}
use Prim.Native.Nat.{◌+◌, ◌-◌, ◌*◌, ◌≤◌}
use native.Mathlib.Omega.{arith}
use Rattle.laws.specs.Sum.{sum}
use Rattle.laws.proofs.Grid.{row_before}
use Rattle.mending.specs.Changes.{cell_changes, follow}
use Rattle.changelist.proofs.Lists.{change-inside, table-word, list-word, next_word, room_word}
use Rattle.changelist.proofs.list_cell.Goals as goal

pub loop-j-init : goal.loop-j-init
unfolding cell_changes follow sum
loop-j-init c = (refl, refl, omega arith, refl, refl, omega arith)

pub overflow_mul-x : goal.overflow_mul-x
overflow_mul-x c =
    let few : c.args.i * c.args.w + c.args.w ≤ 1024 = omega (arith, c.requires.i_bound.2, row_before c.args.w {j = c.args.i} {i = 32} c.requires.i_bound.0) in
    omega (arith, few)

pub overflow_add-x : goal.overflow_add-x
overflow_add-x c =
    let few : c.args.i * c.args.w + c.args.w ≤ 1024 = omega (arith, c.requires.i_bound.2, row_before c.args.w {j = c.args.i} {i = 32} c.requires.i_bound.0) in
    omega (arith, few)

pub overflow_mul-j : goal.overflow_mul-j
overflow_mul-j c =
    let few : c.args.i * c.args.w + c.args.w ≤ 1024 = omega (arith, c.requires.i_bound.2, row_before c.args.w {j = c.args.i} {i = 32} c.requires.i_bound.0) in
    omega (arith, few, c.requires.i_bound.2)

pub offset_bounds-stands-x : goal.offset_bounds-stands-x
offset_bounds-stands-x c =
    let few : c.args.i * c.args.w + c.args.w ≤ 1024 = omega (arith, c.requires.i_bound.2, row_before c.args.w {j = c.args.i} {i = 32} c.requires.i_bound.0) in
    omega (arith, few, c.requires.i_bound.2)

pub bounds-stands-x : goal.bounds-stands-x
bounds-stands-x c = omega (arith, c.requires.i_bound.4)

pub offset_bounds-old-x : goal.offset_bounds-old-x
offset_bounds-old-x c =
    let few : c.args.i * c.args.w + c.args.w ≤ 1024 = omega (arith, c.requires.i_bound.2, row_before c.args.w {j = c.args.i} {i = 32} c.requires.i_bound.0) in
    omega (arith, few, c.requires.i_bound.2)

pub bounds-old-x : goal.bounds-old-x
bounds-old-x c = omega (arith, c.requires.i_bound.5)

pub list_word-next-requires : goal.list_word-next-requires
list_word-next-requires c = let l = c.loop-j in
    let a = c.args in (
      c.requires.i_bound.0,
      c.requires.i_bound.1,
      omega (arith, c.requires.i_bound.3, l.invariant.3),
      change-inside a.w a.i l.j a.stands.now a.old.now a.n c.loop-j-test.true c.requires.row_within.0,
      room_word a.w a.i l.j a.stands.now a.old.now a.at l.next a.list.now l.list l.invariant.1 l.invariant.2 c.loop-j-test.true
          c.requires.row_within.1,
    )

pub loop-j-preserved : goal.loop-j-preserved
loop-j-preserved c = let l = c.loop-j in
    let a = c.args in (
      table-word a.w a.i l.j a.stands.now a.old.now a.n a.table.now l.table l.invariant.0 c.list_word-next.ensures.table,
      list-word a.w a.i l.j a.stands.now a.old.now a.at l.next a.list.now l.list l.invariant.1 l.invariant.2 c.list_word-next.ensures.list,
      next_word a.w a.i l.j a.stands.now a.old.now a.at l.next a.list.now l.list l.invariant.1 l.invariant.2 c.list_word-next.ensures.next,
      c.list_word-next.auto.table ∙ l.invariant.3,
      c.list_word-next.auto.list ∙ l.invariant.4,
      omega (arith, c.loop-j-test.true),
    )

pub returns : goal.returns
returns c = let l = c.loop-j in
    let e : l.j ≡ c.args.w = omega arith in record { table = rw e at l.invariant.0; list = rw e at l.invariant.1; next = rw e at l.invariant.2 }
