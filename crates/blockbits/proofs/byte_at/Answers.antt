-- `blockbits::byte_at` meets its contract: past the end the list gives 0. Assumes nothing.
use mathlib.Core.Path.{refl, sym}
use native.Mathlib.Omega.{arith}
use lib.ListN.{get_or-eq_default}
use Rattle.blockbits.proofs.byte_at.Goals as goal

pub returns-then-k-body : goal.returns-then-k-body
returns-then-k-body c = record { value = refl; upper_bound = omega (arith, c.shared_slice_known-1.given c.args.k) }

pub returns : goal.returns
returns c = record { value = sym (get_or-eq_default c.args.body.now 0 {n = c.args.k} c.if-k-body.false); upper_bound = omega arith }
