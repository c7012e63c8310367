-- `plantest::is_plan` meets its contract: 2,048 bytes are room enough for a row, and for a mask. Assumes nothing.
use mathlib.Core.Path.{sym, ◌∙◌}
use Prim.Native.Nat.{◌*◌, ◌≤◌}
use native.Mathlib.Omega.{arith}
use Rattle.rowapart.proofs.Mask.{mask-within, cut}
use Rattle.plantest.proofs.is_plan.Goals as goal

pub slice_bounds-mask-end : goal.slice_bounds-mask-end
slice_bounds-mask-end c =
    let few : c.mask_size-m.result ≤ 2048 = mask-within c.args.blocked.now
    (c.args.slots * c.args.channels) 2048 c.mask_size-m.ensures c.requires.cells_nonzero.3 in
    few

pub slice_bounds-test_in-end : goal.slice_bounds-test_in-end
slice_bounds-test_in-end c =
    let few : c.mask_size-m.result ≤ 2048 = mask-within c.args.blocked.now
    (c.args.slots * c.args.channels) 2048 c.mask_size-m.ensures c.requires.cells_nonzero.3 in
    cut 2048 c.mask_size-m.result few

pub slice_bounds-test_in-end-2 : goal.slice_bounds-test_in-end-2
slice_bounds-test_in-end-2 c = cut 2048 (c.args.slots * c.args.channels) c.requires.cells_nonzero.3

pub test_in-requires : goal.test_in-requires
test_in-requires c =
    let few : c.mask_size-m.result ≤ 2048 = mask-within c.args.blocked.now
    (c.args.slots * c.args.channels) 2048 c.mask_size-m.ensures c.requires.cells_nonzero.3 in record {
      cells_nonzero = (
        c.requires.cells_nonzero.0,
        c.requires.cells_nonzero.1,
        c.requires.cells_nonzero.2,
        omega (arith, c.requires.cells_nonzero.3),
        c.requires.cells_nonzero.4,
      );
      mask_len = (
        sym (cut 2048 c.mask_size-m.result few) ∙ c.mask_size-m.ensures,
        sym
            (cut 2048 (c.args.slots * c.args.channels) c.requires.cells_nonzero.3),
      );
      either_way = c.requires.either_way;
    }
