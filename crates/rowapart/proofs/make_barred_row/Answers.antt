-- `rowapart::make_barred_row` meets its contract: the mask is laid, the row is marked and filled, and its bars are lifted. Assumes nothing.
use mathlib.Core.Path.{ap, subst, sym, ◌∙◌}
use Prim.Native.Nat.{ℕ, ◌*◌, ◌≤◌}
use native.Mathlib.Omega.{arith}
use lib.ListN.{length, take}
use lib.Seq.{length-take-le}
use Rattle.laws.specs.Bits.{bit_in}
use Rattle.theory.specs.Net.{unblocked}
use Rattle.theory.specs.Greedy.{fill}
use Rattle.rows.specs.Bars.{lifted}
use Rattle.rows.specs.Stretch.{filled_by}
use Rattle.rows.specs.declared.Filled.{Filled}
use Rattle.planrows.specs.Row.{opens}
use Rattle.planrows.proofs.Sent.{same-but-is}
use Rattle.rowapart.proofs.Apart.{apart-barred, apart-lifted, apart-short, apart-sends}
use Rattle.rowapart.proofs.make_barred_row.Goals as goal

pub lay_mask-requires : goal.lay_mask-requires
lay_mask-requires c = subst (λ (k : ℕ). k ≤ length c.args.mask.now) (sym c.requires.i_bound.2) (c.requires.mask_nonzero.1 c.requires.mask_nonzero.0).0

pub take_marked-filled-requires : goal.take_marked-filled-requires
take_marked-filled-requires c = record {
  i_bound = (
    c.requires.i_bound.0,
    c.requires.i_bound.1,
    omega
        (arith, c.take_over-cells.auto.row, c.lay_mask.auto.row, c.requires.i_bound.2),
    c.requires.i_bound.3,
  );
  cells_bound =
      (c.take_over-cells.ensures.few, c.requires.rows_before.0);
}

pub returns : goal.returns
returns c = let same = c.take_over-cells.ensures.marks in
    let a = c.args in
    let n = a.slots * a.channels in
    let t = a.table.now in
    let z = c.lay_mask.new.row in
    let clash = bit_in a.clash.now in
    let u = opens a.mask.now in
    let good = c.requires.mask_nonzero.1 c.requires.mask_nonzero.0 in
    let laid = c.lay_mask.ensures ∙ ap (λ (k : ℕ). take k a.mask.now) c.requires.i_bound.2 in
    let long = ap length laid ∙ length-take-le n a.mask.now good.0 in
    let bars = laid ∙ good.1 in
    let answer = c.take_marked-filled.ensures.answer ∙ ap (filled_by a.slots a.channels a.load) same in
    let row = c.lift.ensures ∙ ap lifted (c.take_marked-filled.ensures.row ∙ ap (fill unblocked 0 a.load) same)
    ∙ apart-lifted n a.i t z long c.requires.i_bound.3 clash u bars a.load in record {
      row = row;
      short = ap (λ (f : Filled). f.left) answer ∙ apart-short n a.i t z long c.requires.i_bound.3 clash u bars a.load;
      stretch = apart-sends n a.i t z long c.requires.i_bound.3 clash u bars a.load _ _ row
          (same-but-is same (ap (fill unblocked 0 a.load) same) c.take_marked-filled.ensures.stretch);
      answer = answer ∙ ap (filled_by a.slots a.channels a.load) (apart-barred n a.i t z long c.requires.i_bound.3 clash u bars);
    }
