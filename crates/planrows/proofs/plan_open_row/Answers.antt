-- `planrows::plan_open_row` meets its contract: the row is lent and cleared, and taken. Assumes nothing.
use mathlib.Core.Path.{ap, ◌∙◌}
use Prim.Native.Nat.{ℕ, ◌*◌}
use lib.ListN.{length, length-replicate}
use Rattle.laws.specs.Bits.{bit_in}
use Rattle.laws.proofs.Part.{back}
use Rattle.planrows.proofs.Marked.{cleared, laid-long, open_row, open-short, open-sends, open-marks}
use Rattle.rows.specs.Stretch.{filled_by}
use Rattle.planrows.proofs.Sent.{before-put}
use Rattle.planrows.proofs.plan_open_row.Goals as goal

pub take_row-requires : goal.take_row-requires
take_row-requires c = let n = c.args.slots * c.args.channels in
    let i = c.args.i in
    let t = c.args.table.now in
    let z = c.clear.new.bytes in
    let idle = cleared (i * n) n t c.requires.i_bound.2 c.clear.ensures in
    let long = ap length idle ∙ length-replicate {A = ℕ} n 0 in
    let same = laid-long n (bit_in c.args.clash.now) i t c.requires.i_bound.2 z long (back (i * n) n t z) in
    let asked = c.requires.rows_before in
    let sent = before-put n i z t c.args.clash.now c.args.starts.now c.args.ends.now long c.requires.i_bound.2 asked
    (back (i * n) n t z) in record { i_bound = (c.requires.i_bound.0, c.requires.i_bound.1, rw same c.requires.i_bound.2); rows_before = sent }

pub returns : goal.returns
returns c = let n = c.args.slots * c.args.channels in
    let i = c.args.i in
    let t = c.args.table.now in
    let clash = bit_in c.args.clash.now in
    let z = c.clear.new.bytes in
    let idle = cleared (i * n) n t c.requires.i_bound.2 c.clear.ensures in
    let long = ap length idle ∙ length-replicate {A = ℕ} n 0 in
    let laid = back (i * n) n t z in record {
      row = open_row n clash i t c.requires.i_bound.2 z long laid idle c.args.load c.take_row.ensures.row;
      short = open-short n clash i t c.requires.i_bound.2 z long laid idle c.args.load c.take_row.ensures.short;
      stretch = open-sends n clash i t c.requires.i_bound.2 z long laid idle c.args.load _ _ c.take_row.ensures.row
          c.take_row.ensures.stretch;
      answer = c.take_row.ensures.answer
          ∙ ap (filled_by c.args.slots c.args.channels c.args.load) (open-marks n clash i t c.requires.i_bound.2 z long laid idle);
    }
