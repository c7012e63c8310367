-- `sheet::header_len` meets its contract: the columns that are left are what is missing. Assumes nothing.
use native.Mathlib.Omega.{arith}
use Rattle.sheet.proofs.WriteLaws.{columns-next, columns-none, header-long}
use Rattle.sheet.proofs.header_len.Goals as goal

pub loop-k-init : goal.loop-k-init
loop-k-init c = (omega (arith, header-long c.args.n), omega arith)

pub loop-k-preserved : goal.loop-k-preserved
loop-k-preserved c = let l = c.loop-k in
    let n = columns-next l.k c.args.n (omega arith) in
    (omega (arith, n, c.digits.ensures.value), omega (arith, c.digits.ensures.upper_bound))

pub returns : goal.returns
returns c = let l = c.loop-k in record { value = omega (arith, columns-none l.k c.args.n (omega arith)); upper_bound = omega arith }
