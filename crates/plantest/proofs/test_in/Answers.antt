-- `plantest::test_in` meets its contract: the mask leaves usable what is open, so that the table is the plan of both or of neither. Assumes nothing.
use mathlib.Core.Path.{◌≡◌, ap, ◌∙◌}
use Prim.Native.Nat.{◌*◌, ◌≤◌}
use native.Mathlib.Omega.{arith}
use lib.ListN.{length}
use Rattle.laws.specs.Bits.{bit_in}
use Rattle.laws.specs.Part.{list_of}
use Rattle.positions.specs.Blocked.{bar_of}
use Rattle.site.specs.Reach.{is_open}
use Rattle.planrows.specs.Row.{opens}
use Rattle.rowapart.specs.Code.{mask_size}
use Rattle.rowapart.proofs.Alike.{plan-alike}
use Rattle.rowapart.proofs.Mask.{mask-small, mask-open, mask-good}
use Rattle.plantest.proofs.test_in.Goals as goal

pub bars-requires : goal.bars-requires
bars-requires c = let n = c.args.slots * c.args.channels in
    let few : length c.args.mask.now ≤ n = rw c.requires.mask_len.0 (mask-small c.args.blocked.now n) in
    omega (arith, few, c.requires.cells_nonzero.3)

pub test_rows-requires : goal.test_rows-requires
test_rows-requires c =
    let made : c.bars.new.mask ≡ list_of (bar_of c.args.blocked.now) (mask_size c.args.blocked.now (c.args.slots * c.args.channels)) = c.bars.ensures ∙ ap
    (list_of (bar_of c.args.blocked.now)) c.requires.mask_len.0 in record {
      cells_nonzero = c.requires.cells_nonzero;
      row_len =
          (c.requires.mask_len.1, omega arith, omega arith);
      masks =
          (mask-good c.args.blocked.now c.bars.new.mask (c.args.slots * c.args.channels) c.requires.cells_nonzero.3 made, c.requires.either_way);
    }

pub returns : goal.returns
returns c =
    let made : c.bars.new.mask ≡ list_of (bar_of c.args.blocked.now) (mask_size c.args.blocked.now (c.args.slots * c.args.channels)) = c.bars.ensures ∙ ap
    (list_of (bar_of c.args.blocked.now)) c.requires.mask_len.0 in
    let a = c.args in
    let mask = c.bars.new.mask in
    c.test_rows.ensures
    ∙ plan-alike (c.args.slots * c.args.channels) a.loads.now (bit_in a.clash.now) (is_open a.blocked.now) (opens mask)
    (mask-open a.blocked.now mask (c.args.slots * c.args.channels) c.requires.cells_nonzero.3 made) a.cells a.table.now
