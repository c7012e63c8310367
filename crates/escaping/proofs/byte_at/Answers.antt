-- `escaping::byte_at` meets its contract: a case for each way out. Assumes nothing.
use mathlib.Core.Path.{sym}
use native.Mathlib.Omega.{arith}
use lib.ListN.{get_or-eq_default}
use Rattle.escaping.proofs.byte_at.Goals as goal

pub returns : goal.returns
returns c = sym (get_or-eq_default c.args.text.now 0 {n = c.args.i} (omega (arith, c.if-i-text.false)))
