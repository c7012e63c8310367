-- `shortrows::fill_short` meets its contract. Both loops keep `Going`: what the row will be once the rest of it is filled, and that the free positions before
-- the one that has its turn are reserved. Assumes nothing.
use Rattle.std.proofs.Common.{arith, ℕ, ◌≡◌, ◌*◌, ap, length}
use Rattle.laws.proofs.Grid.{inside}
use Rattle.shortrows.proofs.Fill.{going-first, going-turn, going-stop, going-end}
use Rattle.shortrows.proofs.fill_short.Goals as goal

pub slots-init : goal.slots-init
slots-init c = let a = c.args in
    (omega arith, going-first a.free a.load a.row.now c.requires.2)

pub loop-channel-preserved : goal.loop-channel-preserved
loop-channel-preserved c = (
  omega arith,
  going-turn c.loop-channel.invariant.1 (omega (arith, inside _ _ _ _ c.slots-test.true c.loop-channel-test.true)) (omega arith) c.free_bit-taken.ensures,
)

pub returns-after-slots : goal.returns-after-slots
returns-after-slots c = let p = c.slots in
    let all : p._slot ≡ c.args.slots = omega arith in
    let e : p.at ≡ length p.row = omega (arith, ap (λ (x : ℕ). x * c.args.channels) all) in
    let end = going-end p.invariant.1 e in record { filled = end.0; left = end.1; to = p.invariant.1.took; within = omega (arith, e) }

pub returns-then-left-eq0-clause-filled : goal.returns-then-left-eq0-clause-filled
returns-then-left-eq0-clause-filled c = (going-stop c.loop-channel.invariant.1 (omega arith)).0

pub returns-then-left-eq0-clause-left : goal.returns-then-left-eq0-clause-left
returns-then-left-eq0-clause-left c = (going-stop c.loop-channel.invariant.1 (omega arith)).1
