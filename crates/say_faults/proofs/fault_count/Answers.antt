-- `say_faults::fault_count` meets its contract: those of the positions and the wrong counts are all. Assumes nothing.
use Prim.Native.Nat.{◌+◌}
use mathlib.Core.Path.{ap₂, ◌∙◌}
use native.Mathlib.Omega.{arith}
use Rattle.laws.proofs.Sums.{count_most}
use Rattle.site.specs.Record.{positions}
use Rattle.say_faults.specs.Said.{shown_in, placed_at}
use Rattle.say_faults.specs.declared.Piece.TheVariants.{Miscounts}
use Rattle.say_faults.proofs.Ready.{ready-sizes, ready-few, ready-placed, sum-most}
use Rattle.say_faults.proofs.Said.{things-are}
use Rattle.say_faults.proofs.fault_count.Goals as goal

pub overflow_add-result : goal.overflow_add-result
overflow_add-result c = let site = c.args.site in
    let t = c.args.table.now in
    let few = ready-placed site t c.requires.0 in
    omega (
      arith,
      c.placed_count.ensures,
      c.piece_count.ensures,
      count_most (shown_in site t Miscounts) site.cells,
      (ready-sizes site t c.requires.0).cells_most,
      ready-few site t c.requires.0,
      sum-most (placed_at site t) 1056 (positions site) few,
    )

pub returns : goal.returns
returns c = ap₂ ◌+◌ c.placed_count.ensures c.piece_count.ensures ∙ things-are c.args.site c.args.table.now
