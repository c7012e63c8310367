-- `finder::lay_back` meets its contract: before cell i, the rows of the cells below i are written, each from the bit of its new number, and what is past them
-- is as it was. Assumes nothing.
use mathlib.Core.Path.{◌≡◌, ap, ◌∙◌}
use Prim.Native.Nat.{ℕ, ◌+◌, ◌*◌, ◌≤◌, ◌<◌}
use native.Mathlib.Omega.{arith}
use lib.ListN.{length, get_or}
use Rattle.laws.specs.Part.{list_of}
use Rattle.laws.specs.Sum.{bit}
use Rattle.laws.proofs.Grid.{row_before}
use Rattle.theory.specs.Net.{Reserved}
use Rattle.renumbering.specs.Numbering.{index_at}
use Rattle.wordforms.specs.Words.{sends_at}
use Rattle.wordforms.proofs.Rows.{none-scattered, one-scattered, scattered-long, lent-long}
use Rattle.finder.proofs.lay_back.Goals as goal

pub loop-i-init : goal.loop-i-init
loop-i-init c =
    let says : Reserved = λ j k. sends_at c.args.words.now (index_at c.args.new j) k in
    (omega arith, none-scattered c.args.n says c.args.table.now)

pub overflow_mul-from : goal.overflow_mul-from
overflow_mul-from c =
    let inside : c.loop-i.i * c.args.n + c.args.n ≤ length c.args.table.now = omega (arith, row_before c.args.n c.loop-i-test.true, c.requires.2) in
    omega (arith, inside, c)

pub overflow_add-to : goal.overflow_add-to
overflow_add-to c =
    let inside : c.loop-i.i * c.args.n + c.args.n ≤ length c.args.table.now = omega (arith, row_before c.args.n c.loop-i-test.true, c.requires.2) in
    omega (arith, inside, c)

pub cell_at-a-requires : goal.cell_at-a-requires
cell_at-a-requires c =
    let is_named : (0 < get_or c.args.new c.loop-i.i 0) × (index_at c.args.new c.loop-i.i < c.args.cells) = c.requires.3 c.loop-i.i c.loop-i-test.true in
    (omega (arith, c.loop-i-test.true, c.requires.0), is_named.0, omega (arith, is_named.1, c.requires.0))

pub slice_bounds-lay_row-count : goal.slice_bounds-lay_row-count
slice_bounds-lay_row-count c = omega arith

pub slice_bounds-lay_row-start : goal.slice_bounds-lay_row-start
slice_bounds-lay_row-start c = omega arith

pub slice_bounds-lay_row-end : goal.slice_bounds-lay_row-end
slice_bounds-lay_row-end c =
    let says : Reserved = λ j k. sends_at c.args.words.now (index_at c.args.new j) k in
    let inside : c.loop-i.i * c.args.n + c.args.n ≤ length c.args.table.now = omega (arith, row_before c.args.n c.loop-i-test.true, c.requires.2) in
    let long : length c.loop-i.table ≡ length c.args.table.now = scattered-long c.args.n says c.args.table.now c.loop-i.i c.loop-i.table
    (omega (arith, inside)) c.loop-i.invariant.1 in
    let lent : c.loop-i.i * c.args.n + c.args.n ≤ length c.loop-i.table = omega (arith, inside, long) in
    lent

pub lay_row-requires : goal.lay_row-requires
lay_row-requires c =
    let says : Reserved = λ j k. sends_at c.args.words.now (index_at c.args.new j) k in
    let inside : c.loop-i.i * c.args.n + c.args.n ≤ length c.args.table.now = omega (arith, row_before c.args.n c.loop-i-test.true, c.requires.2) in
    let long : length c.loop-i.table ≡ length c.args.table.now = scattered-long c.args.n says c.args.table.now c.loop-i.i c.loop-i.table
    (omega (arith, inside)) c.loop-i.invariant.1 in
    let lent : c.loop-i.i * c.args.n + c.args.n ≤ length c.loop-i.table = omega (arith, inside, long) in
    let l = c.loop-i in (
      c.cell_at-a.ensures.1,
      omega (arith, lent-long (l.i * c.args.n) c.args.n l.table lent, c.requires.1),
    )

pub loop-i-preserved : goal.loop-i-preserved
loop-i-preserved c =
    let says : Reserved = λ j k. sends_at c.args.words.now (index_at c.args.new j) k in
    let inside : c.loop-i.i * c.args.n + c.args.n ≤ length c.args.table.now = omega (arith, row_before c.args.n c.loop-i-test.true, c.requires.2) in
    let long : length c.loop-i.table ≡ length c.args.table.now = scattered-long c.args.n says c.args.table.now c.loop-i.i c.loop-i.table
    (omega (arith, inside)) c.loop-i.invariant.1 in
    let lent : c.loop-i.i * c.args.n + c.args.n ≤ length c.loop-i.table = omega (arith, inside, long) in
    let l = c.loop-i in
    let row : ℕ → ℕ → ℕ = λ j k. bit (sends_at c.args.words.now j k) in
    let whole = lent-long (l.i * c.args.n) c.args.n l.table lent in (
      omega arith,
      one-scattered c.args.n says c.args.table.now l.i l.table c.lay_row.new.row l.invariant.1
          (c.lay_row.ensures
          ∙ ap (list_of (row c.cell_at-a.result)) whole
          ∙ ap (λ (j : ℕ). list_of (row j) c.args.n) c.cell_at-a.ensures.0),
    )

pub shape_of-table : goal.shape_of-table
shape_of-table c =
    let says : Reserved = λ j k. sends_at c.args.words.now (index_at c.args.new j) k in
    let l = c.loop-i in
    let all : l.i ≡ c.args.cells = omega (arith, c.loop-i-test.false, l.invariant.0) in
    scattered-long c.args.n says c.args.table.now l.i l.table (rw all c.requires.2) l.invariant.1

pub returns : goal.returns
returns c = let l = c.loop-i in
    let all : l.i ≡ c.args.cells = omega (arith, c.loop-i-test.false, l.invariant.0) in
    rw all at l.invariant.1
