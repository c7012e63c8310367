-- `admission::open_room` meets its contract: of n positions at most n are open. Assumes nothing.
use mathlib.Core.Bool.{not}
use Prim.Native.Nat.{◌≤◌}
use native.Mathlib.Omega.{arith}
use Rattle.laws.proofs.Sums.{count_most}
use Rattle.positions.specs.Blocked.{blocked_at}
use Rattle.admission.proofs.open_room.Goals as goal

pub overflow_cast-result : goal.overflow_cast-result
overflow_cast-result c =
    let counted-few : c.open_count.result ≤ 2048 = omega (
      arith,
      c.open_count.ensures,
      count_most (λ k. not (blocked_at c.args.blocked.now k)) c.args.n,
      c.requires,
    ) in
    omega (arith, counted-few)

pub returns : goal.returns
returns c =
    let counted-few : c.open_count.result ≤ 2048 = omega (
      arith,
      c.open_count.ensures,
      count_most (λ k. not (blocked_at c.args.blocked.now k)) c.args.n,
      c.requires,
    ) in
    (c.open_count.ensures, counted-few)
