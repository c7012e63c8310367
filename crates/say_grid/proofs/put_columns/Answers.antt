-- `say_grid::put_columns` meets its contract: before column j, the columns before it are put. Assumes nothing.
use Prim.Native.Nat.{ℕ, ◌+◌, ◌*◌}
use mathlib.Core.Path.{◌≡◌}
use mathlib.Core.List.{List}
use native.Mathlib.Omega.{arith}
use Rattle.faults.specs.Faults.{in_turn}
use Rattle.faults.proofs.InTurn.{turn_more}
use Rattle.phrases.proofs.Put.{put_both, put-wide, put-none, put-long}
use Rattle.say_faults.proofs.Ready.{ready-sizes}
use Rattle.say_grid.specs.Grid.{column_said}
use Rattle.say_grid.proofs.put_columns.Goals as goal

pub loop-j-init : goal.loop-j-init
unfolding in_turn
loop-j-init c = put-none _ _ _

pub overflow_add-from : goal.overflow_add-from
overflow_add-from c = omega (arith, c.requires.line_le_channels.1)

pub put_column-next-requires : goal.put_column-next-requires
put_column-next-requires c = let p = c.loop-j.invariant in
    let few = (ready-sizes c.args.site c.args.table.now c.requires.table_value.0).slots_most in record {
      table_value = c.requires.table_value;
      line_le_channels = (
        c.requires.line_le_channels.0,
        omega (arith, c.requires.line_le_channels.1),
        omega
            (arith, put-long p, p.follows, p.short, few, c.requires.line_le_channels.1, c.requires.line_le_channels.2),
      );
    }

pub loop-j-preserved : goal.loop-j-preserved
loop-j-preserved c = let a = c.args in
    let said : ℕ → List ℕ = λ x. column_said a.site a.table.now a.line (a.from + x) in
    let j = c.loop-j.j in
    rw (turn_more said j) (put-wide (314 * (j + 1)) (omega arith) (put_both (in_turn said j) _ c.loop-j.invariant c.put_column-next.ensures))

pub returns : goal.returns
returns c = let few = (ready-sizes c.args.site c.args.table.now c.requires.table_value.0).slots_most in
    let e : c.loop-j.j ≡ c.args.many = omega arith in
    put-wide 40192 (omega (arith, few, c.requires.line_le_channels.1)) (rw e at c.loop-j.invariant)
