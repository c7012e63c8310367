-- `say_grid::fitting` meets its contract: a search: what is left gives the answer, and the width so far is that of the piece. Assumes nothing.
use Prim.Native.Nat.{ℕ, ◌+◌, ◌≤◌, ◌<◌}
use mathlib.Core.Path.{◌≡◌, sym, ap, ◌∙◌}
use native.Mathlib.Omega.{arith}
use borrow.Author.Tests.{lt-ltb, le-ltb}
use Rattle.laws.specs.Search.{first}
use Rattle.laws.proofs.Search.{found, missed, ended}
use Rattle.say_faults.proofs.Ready.{ready-sizes}
use Rattle.say_grid.specs.Grid.{piece_width, fitting}
use Rattle.say_grid.proofs.Steps.{piece-more, piece-one}
use Rattle.say_grid.proofs.fitting.Invariants.{over}
use Rattle.say_grid.proofs.fitting.Goals as goal

pub column_width-used-requires : goal.column_width-used-requires
column_width-used-requires c = (c.requires.table_value.0, c.requires.table_value.1, omega (arith, c.requires.left_nonzero.0, c.requires.left_nonzero.1))

pub overflow_add-used : goal.overflow_add-used
overflow_add-used c = omega (arith, c.column_width-used.ensures.1)

pub loop-many-init : goal.loop-many-init
unfolding fitting
loop-many-init c = let a = c.args in (
  omega (arith, c.column_width-used.ensures.0, piece-one a.site a.table.now a.from),
  omega (arith, c.column_width-used.ensures.1),
  ap (first (over a.site a.table.now a.width a.from) 1) (sym c.requires.left_nonzero.1),
)

pub overflow_add-used-in-loop-many : goal.overflow_add-used-in-loop-many
overflow_add-used-in-loop-many c =
    let few : c.args.left + c.args.from ≤ 128 = omega (
      arith,
      c.requires.left_nonzero.0,
      c.requires.left_nonzero.1,
      (ready-sizes c.args.site c.args.table.now c.requires.table_value.0).slots_most,
    ) in
    omega (arith, c.loop-many.invariant.1, c.loop-many-test.true, few)

pub overflow_add-from : goal.overflow_add-from
overflow_add-from c =
    let few : c.args.left + c.args.from ≤ 128 = omega (
      arith,
      c.requires.left_nonzero.0,
      c.requires.left_nonzero.1,
      (ready-sizes c.args.site c.args.table.now c.requires.table_value.0).slots_most,
    ) in
    omega (arith, c.loop-many-test.true, few)

pub column_width-requires : goal.column_width-requires
column_width-requires c =
    let inside : (m : ℕ) → m < c.args.left → c.args.from + m < c.args.site.slots = λ m h. omega (arith, c.requires.left_nonzero.1) in
    (c.requires.table_value.0, c.requires.table_value.1, inside c.loop-many.many (omega arith))

pub overflow_add-used-in-loop-many-2 : goal.overflow_add-used-in-loop-many-2
overflow_add-used-in-loop-many-2 c =
    let few : c.args.left + c.args.from ≤ 128 = omega (
      arith,
      c.requires.left_nonzero.0,
      c.requires.left_nonzero.1,
      (ready-sizes c.args.site c.args.table.now c.requires.table_value.0).slots_most,
    ) in
    omega (arith, c.column_width.ensures.1, c.loop-many.invariant.1, c.loop-many-test.true, few)

pub returns-then-width-used : goal.returns-then-width-used
returns-then-width-used c =
    let more : c.loop-many.used + 2 + c.column_width.result ≡ piece_width c.args.site c.args.table.now c.args.from (c.loop-many.many + 1) = let a = c.args in
    omega (arith, c.loop-many.invariant.0, c.column_width.ensures.0, piece-more a.site a.table.now a.from c.loop-many.many) in
    let a = c.args in
    found (over a.site a.table.now a.width a.from) c.loop-many.many a.left c.loop-many.invariant.2 (omega arith)
    (lt-ltb a.width (piece_width a.site a.table.now a.from (c.loop-many.many + 1)) (omega (arith, c.if-width-used.true, more)))

pub loop-many-preserved : goal.loop-many-preserved
loop-many-preserved c =
    let more : c.loop-many.used + 2 + c.column_width.result ≡ piece_width c.args.site c.args.table.now c.args.from (c.loop-many.many + 1) = let a = c.args in
    omega (arith, c.loop-many.invariant.0, c.column_width.ensures.0, piece-more a.site a.table.now a.from c.loop-many.many) in
    let a = c.args in (
      more,
      omega (arith, c.loop-many.invariant.1, c.column_width.ensures.1),
      missed (over a.site a.table.now a.width a.from) c.loop-many.many a.left c.loop-many.invariant.2 (omega arith)
          (le-ltb a.width (piece_width a.site a.table.now a.from (c.loop-many.many + 1)) (omega (arith, c.if-width-used.false, more))),
    )

pub returns : goal.returns
returns c = let a = c.args in
    let all : a.left ≡ c.loop-many.many = omega arith in
    all ∙ ended (over a.site a.table.now a.width a.from) c.loop-many.many a.left c.loop-many.invariant.2 (omega arith)
