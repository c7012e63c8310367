-- `replan::plan_from` meets its contract: 2,048 bytes are room enough for a row, and for a mask. Assumes nothing.
use mathlib.Core.Path.{sym, ◌∙◌}
use Prim.Native.Nat.{◌*◌, ◌≤◌}
use native.Mathlib.Omega.{arith}
use Rattle.rowapart.proofs.Mask.{mask-within, cut}
use Rattle.replan.proofs.plan_from.Goals as goal

pub slice_bounds-mask-end : goal.slice_bounds-mask-end
slice_bounds-mask-end c =
    let few : c.mask_size-m.result ≤ 2048 = mask-within c.args.blocked.now
    (c.args.slots * c.args.channels) 2048 c.mask_size-m.ensures c.requires.first_le_cells.3 in
    few

pub slice_bounds-plan_in-end : goal.slice_bounds-plan_in-end
slice_bounds-plan_in-end c =
    let few : c.mask_size-m.result ≤ 2048 = mask-within c.args.blocked.now
    (c.args.slots * c.args.channels) 2048 c.mask_size-m.ensures c.requires.first_le_cells.3 in
    cut 2048 c.mask_size-m.result few

pub slice_bounds-plan_in-end-2 : goal.slice_bounds-plan_in-end-2
slice_bounds-plan_in-end-2 c = cut 2048 (c.args.slots * c.args.channels) c.requires.first_le_cells.3

pub plan_in-requires : goal.plan_in-requires
plan_in-requires c =
    let few : c.mask_size-m.result ≤ 2048 = mask-within c.args.blocked.now
    (c.args.slots * c.args.channels) 2048 c.mask_size-m.ensures c.requires.first_le_cells.3 in record {
      first_le_cells = (
        c.requires.first_le_cells.0,
        c.requires.first_le_cells.1,
        c.requires.first_le_cells.2,
        omega (arith, c.requires.first_le_cells.3),
        c.requires.first_le_cells.4,
      );
      mask_len = (
        sym (cut 2048 c.mask_size-m.result few) ∙ c.mask_size-m.ensures,
        sym
            (cut 2048 (c.args.slots * c.args.channels) c.requires.first_le_cells.3),
      );
      planned_to = c.requires.planned_to;
    }
