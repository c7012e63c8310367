-- `planbits::four_of` meets its contract: four bits make a number below 16. Assumes nothing.
use Prim.Native.Nat.{◌<◌}
use native.Mathlib.Omega.{arith}
use Rattle.planbits.proofs.Bits.{one-two, ones-four}
use Rattle.planbits.proofs.four_of.Goals as goal

pub overflow_mul-result : goal.overflow_mul-result
overflow_mul-result c =
    let small : (c.is_one-d.result < 2) × (c.is_one-c.result < 2) × (c.is_one-b.result < 2) × (c.is_one-a.result < 2) = (
      rw c.is_one-d.ensures (one-two _),
      rw c.is_one-c.ensures (one-two _),
      rw c.is_one-b.ensures (one-two _),
      rw c.is_one-a.ensures (one-two _),
    ) in
    omega (arith, small)

pub overflow_add-result : goal.overflow_add-result
overflow_add-result c =
    let small : (c.is_one-d.result < 2) × (c.is_one-c.result < 2) × (c.is_one-b.result < 2) × (c.is_one-a.result < 2) = (
      rw c.is_one-d.ensures (one-two _),
      rw c.is_one-c.ensures (one-two _),
      rw c.is_one-b.ensures (one-two _),
      rw c.is_one-a.ensures (one-two _),
    ) in
    omega (arith, small)

pub overflow_mul-result-2 : goal.overflow_mul-result-2
overflow_mul-result-2 c =
    let small : (c.is_one-d.result < 2) × (c.is_one-c.result < 2) × (c.is_one-b.result < 2) × (c.is_one-a.result < 2) = (
      rw c.is_one-d.ensures (one-two _),
      rw c.is_one-c.ensures (one-two _),
      rw c.is_one-b.ensures (one-two _),
      rw c.is_one-a.ensures (one-two _),
    ) in
    omega (arith, small)

pub overflow_add-result-2 : goal.overflow_add-result-2
overflow_add-result-2 c =
    let small : (c.is_one-d.result < 2) × (c.is_one-c.result < 2) × (c.is_one-b.result < 2) × (c.is_one-a.result < 2) = (
      rw c.is_one-d.ensures (one-two _),
      rw c.is_one-c.ensures (one-two _),
      rw c.is_one-b.ensures (one-two _),
      rw c.is_one-a.ensures (one-two _),
    ) in
    omega (arith, small)

pub overflow_mul-result-3 : goal.overflow_mul-result-3
overflow_mul-result-3 c =
    let small : (c.is_one-d.result < 2) × (c.is_one-c.result < 2) × (c.is_one-b.result < 2) × (c.is_one-a.result < 2) = (
      rw c.is_one-d.ensures (one-two _),
      rw c.is_one-c.ensures (one-two _),
      rw c.is_one-b.ensures (one-two _),
      rw c.is_one-a.ensures (one-two _),
    ) in
    omega (arith, small)

pub overflow_add-result-3 : goal.overflow_add-result-3
overflow_add-result-3 c =
    let small : (c.is_one-d.result < 2) × (c.is_one-c.result < 2) × (c.is_one-b.result < 2) × (c.is_one-a.result < 2) = (
      rw c.is_one-d.ensures (one-two _),
      rw c.is_one-c.ensures (one-two _),
      rw c.is_one-b.ensures (one-two _),
      rw c.is_one-a.ensures (one-two _),
    ) in
    omega (arith, small)

pub returns : goal.returns
returns c = let a = c.args in
    omega (
      arith,
      ones-four a.table.now a.k,
      c.is_one-d.ensures,
      c.is_one-c.ensures,
      c.is_one-b.ensures,
      c.is_one-a.ensures,
    )
