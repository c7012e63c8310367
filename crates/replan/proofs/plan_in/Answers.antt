-- `replan::plan_in` meets its contract: the mask leaves usable what is open, so that the run is the same, and any row sends between its first position and its
-- last. Assumes nothing.
use mathlib.Core.Path.{◌≡◌, refl, ap, ◌∙◌}
use mathlib.Core.List.{List}
use Prim.Native.Nat.{ℕ, ◌*◌, ◌≤◌, ◌<◌, zero-le}
use native.Mathlib.Nat.{le_refl}
use native.Mathlib.Omega.{arith}
use lib.ListN.{length, replicate, get_or-replicate}
use Rattle.laws.specs.Bits.{bit_in}
use Rattle.laws.specs.Part.{list_of}
use Rattle.positions.specs.Blocked.{bar_of}
use Rattle.site.specs.Reach.{is_open}
use Rattle.planrows.specs.Row.{opens, Sending}
use Rattle.planrows.proofs.Sent.{sends-in-is}
use Rattle.planner.proofs.Alike.{answer-alike, leaves_alike}
use Rattle.rowapart.specs.Code.{mask_size}
use Rattle.rowapart.proofs.Alike.{planned-alike}
use Rattle.rowapart.proofs.Mask.{mask-small, mask-open, mask-good}
use Rattle.replan.proofs.plan_in.Goals as goal

-- each row is asked as a whole
asked-whole : (n first : ℕ) (t : List ℕ) → first ≤ 32 → Sending n t first (replicate 32 0) (replicate 32 n)
asked-whole n first t h j l =
    let low : j < 32 = omega arith in
    sends-in-is n j {t = t} {u = t} refl (get_or-replicate 32 j 0 0 low) (get_or-replicate 32 j n 0 low) (zero-le, le_refl n, λ p b e. (zero-le, b))

pub bars-requires : goal.bars-requires
bars-requires c = let n = c.args.slots * c.args.channels in
    let few : length c.args.mask.now ≤ n = rw c.requires.mask_len.0 (mask-small c.args.blocked.now n) in
    omega (arith, few, c.requires.first_le_cells.3)

pub rows_from-requires : goal.rows_from-requires
rows_from-requires c =
    let made : (c.bars.new.mask) ≡ list_of (bar_of c.args.blocked.now) (mask_size c.args.blocked.now (c.args.slots * c.args.channels)) = c.bars.ensures ∙ ap
    (list_of (bar_of c.args.blocked.now)) c.requires.mask_len.0 in
    let barred : (k : ℕ) → k < (c.args.slots * c.args.channels) → is_open c.args.blocked.now k ≡ opens (c.bars.new.mask) k = mask-open c.args.blocked.now
    (c.bars.new.mask) (c.args.slots * c.args.channels) c.requires.first_le_cells.3 made in
    let a = c.args in record {
      first_le_cells = c.requires.first_le_cells;
      row_len = (c.requires.mask_len.1, omega arith, omega arith);
      planned_to = (
        planned-alike (c.args.slots * c.args.channels) a.loads.now (bit_in a.clash.now) (is_open a.blocked.now) (opens (c.bars.new.mask)) barred a.cells a.first
            a.table.now c.requires.planned_to.0,
        asked-whole (c.args.slots * c.args.channels) a.first a.table.now (omega (arith, c.requires.first_le_cells.0, c.requires.first_le_cells.1)),
        mask-good a.blocked.now (c.bars.new.mask) (c.args.slots * c.args.channels) c.requires.first_le_cells.3 made,
        c.requires.planned_to.1,
      );
    }

pub returns : goal.returns
returns c =
    let made : (c.bars.new.mask) ≡ list_of (bar_of c.args.blocked.now) (mask_size c.args.blocked.now (c.args.slots * c.args.channels)) = c.bars.ensures ∙ ap
    (list_of (bar_of c.args.blocked.now)) c.requires.mask_len.0 in
    let barred : (k : ℕ) → k < (c.args.slots * c.args.channels) → is_open c.args.blocked.now k ≡ opens (c.bars.new.mask) k = mask-open c.args.blocked.now
    (c.bars.new.mask) (c.args.slots * c.args.channels) c.requires.first_le_cells.3 made in
    let a = c.args in record {
      answer = c.rows_from.ensures.answer
          ∙ answer-alike a.cells (c.args.slots * c.args.channels) a.loads.now (bit_in a.clash.now) (is_open a.blocked.now) (opens (c.bars.new.mask)) barred;
      table = c.rows_from.ensures.table
          ∙ leaves_alike a.cells (c.args.slots * c.args.channels) a.loads.now (bit_in a.clash.now) (is_open a.blocked.now) (opens (c.bars.new.mask)) barred
          a.table.now;
    }
