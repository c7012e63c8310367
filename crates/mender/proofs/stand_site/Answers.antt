-- `mender::stand_site` meets its contract: where every cell stands, the answer is done. Assumes nothing.
use mathlib.Core.Path.{◌≡◌, sym}
use native.Mathlib.Omega.{arith}
use Rattle.std.specs.Prelude.{Ok}
use Rattle.site.specs.Record.{fault_of}
use Rattle.mender.proofs.Written.{all_stands}
use Rattle.mender.proofs.stand_site.Goals as goal

pub returns : goal.returns
returns c = let s = c.args.site in
    let fine : fault_of s ≡ Ok tt = sym c.in_ok-accepted.ensures in
    all_stands s c.args.table.now c.stand_all.new.stands c.stand_all.new.old c.clash_rows-clash.result fine
    (omega (arith, c.if-table-cells.false)) (c.clash_rows-clash.ensures.clash fine) c.in_ok-number.number
    c.in_ok-number.ensures.answer c.stand_all.ensures.says
