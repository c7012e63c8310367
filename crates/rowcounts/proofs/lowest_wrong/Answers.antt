-- `rowcounts::lowest_wrong` meets its contract: a search: what is left gives the answer. Assumes nothing.
use Rattle.rowcounts.proofs.Rows.{is-wrong, is_right}
use mathlib.Core.Path.{refl}
use native.Mathlib.Omega.{arith}
use Rattle.laws.proofs.Search.{found, missed, ended}
use Rattle.laws.proofs.Grid.{row_before}
use Rattle.theory.specs.Greedy.{reserved}
use Rattle.theory.specs.Verdict.{wrong_in, lowest_wrong}
use Rattle.rowcounts.specs.Counts.{load_net}
use Rattle.rowcounts.proofs.lowest_wrong.Goals as goal

pub loop-i-init : goal.loop-i-init
unfolding lowest_wrong
loop-i-init c = refl

pub cell_count-count-requires : goal.cell_count-count-requires
cell_count-count-requires c = let a = c.args in
    omega (arith, row_before a.n c.loop-i-test.true)

pub returns-then-count-load : goal.returns-then-count-load
returns-then-count-load c = let a = c.args in
    found (wrong_in (load_net a.cells a.n a.loads) (reserved a.n a.table.now)) c.loop-i.i a.cells c.loop-i.invariant (omega arith)
    (is-wrong a.cells a.n a.loads a.table.now c.loop-i.i c.cell_count-count.ensures (λ e. omega (arith, c.if-count-load.true)))

pub loop-i-preserved : goal.loop-i-preserved
loop-i-preserved c = let a = c.args in
    missed (wrong_in (load_net a.cells a.n a.loads) (reserved a.n a.table.now)) c.loop-i.i a.cells c.loop-i.invariant (omega arith)
    (is_right a.cells a.n a.loads a.table.now c.loop-i.i c.cell_count-count.ensures (omega (arith, c.if-count-load.false)))

pub returns : goal.returns
returns c = let a = c.args in
    omega (arith, ended (wrong_in (load_net a.cells a.n a.loads) (reserved a.n a.table.now)) c.loop-i.i a.cells c.loop-i.invariant c.loop-i-test.false)
