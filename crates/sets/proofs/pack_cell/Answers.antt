-- `sets::pack_cell` meets its contract: what is lent is cell i's part of the table. Assumes nothing.
use mathlib.Core.Path.{ap, ◌∙◌}
use Prim.Native.Nat.{◌+◌, ◌-◌, ◌*◌}
use native.Mathlib.Omega.{arith}
use borrow.Rule.Slice.PartMut.{mid_of}
use lib.ListN.{length-take}
use lib.Seq.{sets}
use Rattle.packing.specs.Packed.{in_row}
use Rattle.sets.specs.Pack.{in_cell}
use Rattle.sets.proofs.Packed.{cell_row-law}
use Rattle.sets.proofs.Sets.{set_same}
use Rattle.sets.proofs.pack_cell.Goals as goal

pub pack_row-requires : goal.pack_row-requires
pack_row-requires c = (rw length-take (omega arith), omega arith, omega arith)

pub returns : goal.returns
returns c = let a = c.args in
    c.pack_row.ensures
    ∙ ap (sets a.set.now 0)
    (set_same (in_row (mid_of (a.i * a.n) (a.i * a.n + a.n - a.i * a.n) a.table.now)) (in_cell a.n a.table.now a.i) a.w (λ k h.
    cell_row-law a.n a.i a.table.now (omega arith) k))
