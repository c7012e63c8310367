-- `say_slots::slot_phrase` meets its contract: the test decides. Assumes nothing.
use Prim.Native.Nat.{◌*◌, ◌≤◌}
use mathlib.Core.Path.{sym, ◌∙◌}
use native.Mathlib.Nat.{mul-le-mul}
use native.Mathlib.Omega.{arith}
use Rattle.drawing.proofs.Places.{wide-most}
use Rattle.say_slots.proofs.slot_phrase.Goals as goal

pub overflow_mul-result : goal.overflow_mul-result
overflow_mul-result c =
    let wide-few : c.slot_wide-wide.result ≤ 416 = omega (arith, c.slot_wide-wide.ensures, wide-most c.args.site) in
    let slots-few : c.args.slot * c.slot_wide-wide.result ≤ 128 * 416 = let few : c.args.slot ≤ 128 = omega (arith, c.requires.1, c.requires.0.slots_most) in
    mul-le-mul few wide-few in
    omega (arith, slots-few)

pub overflow_add-result : goal.overflow_add-result
overflow_add-result c =
    let wide-few : c.slot_wide-wide.result ≤ 416 = omega (arith, c.slot_wide-wide.ensures, wide-most c.args.site) in
    let slots-few : c.args.slot * c.slot_wide-wide.result ≤ 128 * 416 = let few : c.args.slot ≤ 128 = omega (arith, c.requires.1, c.requires.0.slots_most) in
    mul-le-mul few wide-few in
    omega (arith, slots-few)

pub overflow_add-result-then-numbered : goal.overflow_add-result-then-numbered
overflow_add-result-then-numbered c =
    let wide-few : c.slot_wide-wide.result ≤ 416 = omega (arith, c.slot_wide-wide.ensures, wide-most c.args.site) in
    let slots-few : c.args.slot * c.slot_wide-wide.result ≤ 128 * 416 = let few : c.args.slot ≤ 128 = omega (arith, c.requires.1, c.requires.0.slots_most) in
    mul-le-mul few wide-few in
    omega (arith, slots-few, wide-few)

pub returns-then-numbered : goal.returns-then-numbered
returns-then-numbered c = rw (sym c.numbered.ensures ∙ c.if-numbered.true, c.slot_wide-wide.ensures)

pub returns : goal.returns
returns c = rw (sym c.numbered.ensures ∙ c.if-numbered.false)
