-- `sheet::sheet_len` meets its contract: the lines that are left are what is missing. Assumes nothing.
use native.Mathlib.Omega.{arith}
use Prim.Native.Nat.{◌+◌, ◌-◌}
use mathlib.Core.Path.{ap}
use mathlib.Core.List.{[]}
use lib.ListN.{length, length-append}
use Rattle.sheet.specs.Sheet.{line_of, lines_from}
use Rattle.sheet.proofs.WriteLaws.{plain, line-long, lines_next, lines_none, sheet-long, as_long}
use Rattle.sheet.proofs.sheet_len.Goals as goal

pub loop-k-init : goal.loop-k-init
loop-k-init c = let s = c.args.s in
    (omega (arith, sheet-long (plain s.cells s.loads []), c.header_len-need.ensures.value), omega (arith, c.header_len-need.ensures.upper_bound))

pub loop-k-preserved : goal.loop-k-preserved
loop-k-preserved c = let s = c.args.s in
    let p = plain s.cells s.loads [] in
    let e = ap length (lines_next p c.loop-k.k s.cells (omega arith)) in (
      omega (
        arith,
        e,
        length-append (line_of p c.loop-k.k) (lines_from p (c.loop-k.k + 1) (s.cells - (c.loop-k.k + 1))),
        line-long p c.loop-k.k,
        c.line_len-need.ensures.value,
      ),
      omega (arith, c.line_len-need.ensures.upper_bound),
    )

pub returns : goal.returns
returns c = let s = c.args.s in
    omega (arith, ap length (lines_none (plain s.cells s.loads []) c.loop-k.k s.cells (omega arith)), as_long s)
