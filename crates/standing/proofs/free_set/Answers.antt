-- `standing::free_set` meets its contract: before each clashing cell, the sets of those below it are taken away. Assumes nothing.
use mathlib.Core.Path.{◌≡◌, refl}
use Prim.Native.Nat.{◌+◌}
use native.Mathlib.Omega.{arith}
use Rattle.laws.specs.Bits.{bit_at}
use Rattle.laws.proofs.Grid.{row_before}
use Rattle.laws.proofs.Search.{first-most, first-least, first_passes, first-before}
use Rattle.sets.specs.Sets.{in_set}
use Rattle.standing.specs.Sets.{stands_in, free_by}
use Rattle.standing.proofs.Free.{none-off, none_between, next-off, end-off}
use Rattle.standing.proofs.free_set.Goals as goal

pub lowest-a-requires : goal.lowest-a-requires
lowest-a-requires c = (omega arith, omega arith)

pub loop-a-init : goal.loop-a-init
loop-a-init c = let low = c.lowest-a in
    let a = c.args in (
      omega (arith, low.ensures, first-most (bit_at a.row) 0 a.i (omega arith)),
      λ h. rw low.ensures (first_passes (bit_at a.row) 0 a.i (omega arith) (omega (arith, low.ensures))),
      refl,
      none_between (in_set a.vacant.now) (bit_at a.row) (stands_in a.w a.stands.now) a.w _ _ 0 low.result (omega arith)
          (λ k g m. first-before (bit_at a.row) 0 a.i k g (omega (arith, low.ensures)))
          (none-off (in_set a.vacant.now) (bit_at a.row) (stands_in a.w a.stands.now) a.w a.free.now c.meet_of.new.to (omega arith)
          c.meet_of.ensures),
    )

pub overflow_mul-a : goal.overflow_mul-a
overflow_mul-a c = let l = c.loop-a in
    let a = c.args in
    omega (arith, row_before a.w {j = l.a} {i = a.i} (omega arith))

pub take_away-requires : goal.take_away-requires
take_away-requires c = let l = c.loop-a in
    let a = c.args in
    let copied = c.meet_of.auto.to in
    (omega (arith, l.invariant.2, copied), omega (arith, row_before a.w {j = l.a} {i = a.i} (omega arith)))

pub overflow_add-a : goal.overflow_add-a
overflow_add-a c = omega arith

pub lowest-a-requires-in-loop-a : goal.lowest-a-requires-in-loop-a
lowest-a-requires-in-loop-a c = (omega arith, omega arith)

pub loop-a-smaller : goal.loop-a-smaller
loop-a-smaller c = let l = c.loop-a in
    let a = c.args in
    omega (arith, c.lowest-a-in-loop-a.ensures, first-least (bit_at a.row) (l.a + 1) a.i, first-most (bit_at a.row) (l.a + 1) a.i (omega arith))

pub loop-a-preserved : goal.loop-a-preserved
loop-a-preserved c = let low = c.lowest-a-in-loop-a in
    let l = c.loop-a in
    let a = c.args in
    let q = bit_at a.row in (
      omega (arith, low.ensures, first-most q (l.a + 1) a.i (omega arith)),
      λ h. rw low.ensures (first_passes q (l.a + 1) a.i (omega arith) (omega (arith, low.ensures))),
      omega (arith, c.take_away.auto.set, l.invariant.2),
      next-off (in_set a.vacant.now) q (stands_in a.w a.stands.now) a.w c.meet_of.new.to l.free c.take_away.new.set l.a low.result
          (omega (arith, c.meet_of.auto.to)) (l.invariant.1 (omega arith)) (omega (arith, low.ensures, first-least q (l.a + 1) a.i))
          (λ k g h. first-before q (l.a + 1) a.i k g (omega (arith, low.ensures))) l.invariant.3 c.take_away.ensures,
    )

pub returns : goal.returns
returns c = let l = c.loop-a in
    let a = c.args in
    let e : l.a ≡ a.i = omega arith in
    end-off (in_set a.vacant.now) (bit_at a.row) (stands_in a.w a.stands.now) a.w a.free.now c.meet_of.new.to l.free
    (free_by (in_set a.vacant.now) a.w a.row a.stands.now a.i)
    (omega arith) c.meet_of.ensures (rw e at l.invariant.3)
