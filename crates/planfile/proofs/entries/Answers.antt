-- `planfile::entries` meets its contract: three numbers of two bytes multiply to less than 2 to the power 48. Assumes nothing.
use Prim.Native.Nat.{◌*◌, ◌≤◌}
use native.Mathlib.Nat.{mul-le-mul}
use native.Mathlib.Omega.{arith}
use Rattle.planfile.proofs.entries.Goals as goal

pub overflow_mul-result : goal.overflow_mul-result
overflow_mul-result c =
    let slots-channels : c.args.slots * c.args.channels ≤ 4294836225 = mul-le-mul {n₁ = c.args.slots} {m₁ = c.args.channels} {n₂ = 65535} {m₂ = 65535}
    (omega arith) (omega arith) in
    omega (arith, slots-channels)

pub overflow_mul-result-2 : goal.overflow_mul-result-2
overflow_mul-result-2 c =
    let slots-channels : c.args.slots * c.args.channels ≤ 4294836225 = mul-le-mul {n₁ = c.args.slots} {m₁ = c.args.channels} {n₂ = 65535} {m₂ = 65535}
    (omega arith) (omega arith) in
    omega (arith, slots-channels, mul-le-mul {n₁ = c.args.cells} {n₂ = 65535} (omega arith) slots-channels)
