-- `wordforms::lay_rows` meets its contract: before cell i, the rows of the cells below i are written, and what is past them is as it was. Assumes nothing.
use mathlib.Core.Path.{◌≡◌, ap, ◌∙◌}
use Prim.Native.Nat.{ℕ, ◌+◌, ◌*◌, ◌≤◌}
use native.Mathlib.Omega.{arith}
use lib.ListN.{length}
use Rattle.laws.specs.Part.{list_of}
use Rattle.laws.specs.Sum.{bit}
use Rattle.laws.proofs.Grid.{row_before}
use Rattle.wordforms.specs.Words.{sends_at}
use Rattle.wordforms.proofs.Rows.{none-scattered, one-scattered, scattered-long, lent-long}
use Rattle.wordforms.proofs.lay_rows.Goals as goal

pub loop-i-init : goal.loop-i-init
loop-i-init c = (omega arith, none-scattered c.args.n (sends_at c.args.words.now) c.args.table.now)

pub overflow_mul-from : goal.overflow_mul-from
overflow_mul-from c =
    let inside : c.loop-i.i * c.args.n + c.args.n ≤ length c.args.table.now = omega (arith, row_before c.args.n c.loop-i-test.true, c.requires.2) in
    omega (arith, inside, c)

pub overflow_add-to : goal.overflow_add-to
overflow_add-to c =
    let inside : c.loop-i.i * c.args.n + c.args.n ≤ length c.args.table.now = omega (arith, row_before c.args.n c.loop-i-test.true, c.requires.2) in
    omega (arith, inside, c)

pub slice_bounds-lay_row-count : goal.slice_bounds-lay_row-count
slice_bounds-lay_row-count c = omega arith

pub slice_bounds-lay_row-start : goal.slice_bounds-lay_row-start
slice_bounds-lay_row-start c = omega arith

pub slice_bounds-lay_row-end : goal.slice_bounds-lay_row-end
slice_bounds-lay_row-end c =
    let inside : c.loop-i.i * c.args.n + c.args.n ≤ length c.args.table.now = omega (arith, row_before c.args.n c.loop-i-test.true, c.requires.2) in
    let long : length c.loop-i.table ≡ length c.args.table.now = scattered-long c.args.n (sends_at c.args.words.now) c.args.table.now c.loop-i.i c.loop-i.table
    (omega (arith, inside)) c.loop-i.invariant.1 in
    let lent : c.loop-i.i * c.args.n + c.args.n ≤ length c.loop-i.table = omega (arith, inside, long) in
    lent

pub lay_row-requires : goal.lay_row-requires
lay_row-requires c =
    let inside : c.loop-i.i * c.args.n + c.args.n ≤ length c.args.table.now = omega (arith, row_before c.args.n c.loop-i-test.true, c.requires.2) in
    let long : length c.loop-i.table ≡ length c.args.table.now = scattered-long c.args.n (sends_at c.args.words.now) c.args.table.now c.loop-i.i c.loop-i.table
    (omega (arith, inside)) c.loop-i.invariant.1 in
    let lent : c.loop-i.i * c.args.n + c.args.n ≤ length c.loop-i.table = omega (arith, inside, long) in
    let l = c.loop-i in (
      omega (arith, c.loop-i-test.true, c.requires.0),
      omega (arith, lent-long (l.i * c.args.n) c.args.n l.table lent, c.requires.1),
    )

pub loop-i-preserved : goal.loop-i-preserved
loop-i-preserved c =
    let inside : c.loop-i.i * c.args.n + c.args.n ≤ length c.args.table.now = omega (arith, row_before c.args.n c.loop-i-test.true, c.requires.2) in
    let long : length c.loop-i.table ≡ length c.args.table.now = scattered-long c.args.n (sends_at c.args.words.now) c.args.table.now c.loop-i.i c.loop-i.table
    (omega (arith, inside)) c.loop-i.invariant.1 in
    let lent : c.loop-i.i * c.args.n + c.args.n ≤ length c.loop-i.table = omega (arith, inside, long) in
    let l = c.loop-i in
    let f : ℕ → ℕ = λ k. bit (sends_at c.args.words.now l.i k) in (
      omega arith,
      one-scattered c.args.n (sends_at c.args.words.now) c.args.table.now l.i l.table c.lay_row.new.row l.invariant.1
          (c.lay_row.ensures ∙ ap (list_of f) (lent-long (l.i * c.args.n) c.args.n l.table lent)),
    )

pub shape_of-table : goal.shape_of-table
shape_of-table c = let l = c.loop-i in
    let all : l.i ≡ c.args.cells = omega (arith, c.loop-i-test.false, l.invariant.0) in
    scattered-long c.args.n (sends_at c.args.words.now) c.args.table.now l.i l.table (rw all c.requires.2) l.invariant.1

pub returns : goal.returns
returns c = let l = c.loop-i in
    let all : l.i ≡ c.args.cells = omega (arith, c.loop-i-test.false, l.invariant.0) in
    rw all at l.invariant.1
