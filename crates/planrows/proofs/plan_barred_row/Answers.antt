-- `planrows::plan_barred_row` meets its contract: the row is lent and the mask laid, it is taken, and lent again and lifted. Assumes nothing.
use mathlib.Core.Path.{ap, ◌∙◌}
use Prim.Native.Nat.{◌*◌}
use lib.ListN.{length}
use lib.Seq.{length-take-le}
use Rattle.laws.specs.Bits.{bit_in}
use Rattle.laws.proofs.Part.{back}
use Rattle.planrows.specs.Row.{opens}
use Rattle.planrows.proofs.Marked.{masked, masked-fits, laid-long, barred-row, barred-short, barred-sends, barred-marks}
use Rattle.rows.specs.Stretch.{filled_by}
use Rattle.planrows.proofs.Sent.{before-put}
use Rattle.planrows.proofs.plan_barred_row.Goals as goal

pub lay_mask-requires : goal.lay_mask-requires
lay_mask-requires c = let n = c.args.slots * c.args.channels in
    masked-fits (c.args.i * n) n c.args.table.now c.requires.i_bound.2 (c.requires.mask_nonzero.1 c.requires.mask_nonzero.0).0

pub take_row-filled-requires : goal.take_row-filled-requires
take_row-filled-requires c = let n = c.args.slots * c.args.channels in
    let i = c.args.i in
    let t = c.args.table.now in
    let mask = c.args.mask.now in
    let wide = (c.requires.mask_nonzero.1 c.requires.mask_nonzero.0).0 in
    let z = c.lay_mask.new.row in
    let laid = masked (i * n) n t mask c.requires.i_bound.2 c.lay_mask.ensures in
    let long = ap length laid ∙ length-take-le n mask wide in
    let same = laid-long n (bit_in c.args.clash.now) i t c.requires.i_bound.2 z long (back (i * n) n t z) in
    let asked = c.requires.rows_before in
    let sent = before-put n i z t c.args.clash.now c.args.starts.now c.args.ends.now long c.requires.i_bound.2 asked
    (back (i * n) n t z) in record { i_bound = (c.requires.i_bound.0, c.requires.i_bound.1, rw same c.requires.i_bound.2); rows_before = sent }

pub returns : goal.returns
returns c = let n = c.args.slots * c.args.channels in
    let i = c.args.i in
    let t = c.args.table.now in
    let mask = c.args.mask.now in
    let clash = bit_in c.args.clash.now in
    let good = c.requires.mask_nonzero.1 c.requires.mask_nonzero.0 in
    let z = c.lay_mask.new.row in
    let laid = masked (i * n) n t mask c.requires.i_bound.2 c.lay_mask.ensures in
    let long = ap length laid ∙ length-take-le n mask good.0 in
    let bars = laid ∙ good.1 in
    let row = barred-row n clash i t c.requires.i_bound.2 z long (back (i * n) n t z) (opens mask) bars c.args.load c.take_row-filled.ensures.row
    c.lift.ensures in record {
      row = row;
      short = barred-short n clash i t c.requires.i_bound.2 z long (back (i * n) n t z) (opens mask) bars c.args.load c.take_row-filled.ensures.short;
      stretch = barred-sends n clash i t c.requires.i_bound.2 z long (back (i * n) n t z) (opens mask) bars c.args.load _ _ row
          c.take_row-filled.ensures.stretch;
      answer = c.take_row-filled.ensures.answer
          ∙ ap (filled_by c.args.slots c.args.channels c.args.load)
          (barred-marks n clash i t c.requires.i_bound.2 z long (back (i * n) n t z) (opens mask) bars);
    }
