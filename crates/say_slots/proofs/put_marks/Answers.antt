-- `say_slots::put_marks` meets its contract: before a slot, the runs that begin below it are put. Assumes nothing.
use Prim.Native.Nat.{◌+◌, ◌*◌, ◌≤◌, ◌<◌}
use mathlib.Core.Path.{◌≡◌}
use mathlib.Core.Bool.{and-true}
use native.Mathlib.Omega.{arith}
use Rattle.faults.specs.Faults.{in_turn}
use Rattle.phrases.proofs.Put.{put_both, put-wide, put-none}
use Rattle.drawing.specs.Slots.{marked_in, run_begins, run_past, marks_of_kind}
use Rattle.drawing.proofs.Places.{wide-most}
use Rattle.say_slots.proofs.Ready.{past-least, past-most}
use Rattle.say_slots.proofs.Runs.{begins-next, marks-next}
use Rattle.say_slots.proofs.put_marks.Goals as goal

pub loop-slot-init : goal.loop-slot-init
unfolding in_turn run_begins
loop-slot-init c = let a = c.args in
    (omega arith, put-none _ _ _, λ h. and-true (marked_in a.site a.table.now a.mark a.i a.channel 0))

pub run_phrase-requires : goal.run_phrase-requires
run_phrase-requires c = let a = c.args in
    let past = c.run_past-past.ensures in
    let least = past-least a.site a.table.now a.mark a.i a.channel c.loop-slot.slot in
    let most = past-most a.site a.table.now a.mark a.i a.channel c.loop-slot.slot c.loop-slot-test.true in
    (omega (arith, past, least), omega (arith, past, most, c.requires.0.sizes.slots_most), omega (arith, c.slot_wide-wide.ensures, wide-most a.site))

pub loop-slot-preserved : goal.loop-slot-preserved
loop-slot-preserved c = let a = c.args in
    let k = c.loop-slot.slot in
    let m = c.max-slot.result in
    let inside = c.loop-slot-test.true in
    let past : c.run_past-past.result ≡ run_past a.site a.table.now a.mark a.i a.channel k = c.run_past-past.ensures in
    let least : k ≤ run_past a.site a.table.now a.mark a.i a.channel k = past-least a.site a.table.now a.mark a.i a.channel k in
    let most : run_past a.site a.table.now a.mark a.i a.channel k ≤ a.site.slots = past-most a.site a.table.now a.mark a.i a.channel k inside in
    let run : k < run_past a.site a.table.now a.mark a.i a.channel k → m ≡ run_past a.site a.table.now a.mark a.i a.channel k =
    λ h. omega (arith, past, c.max-slot.ensures, h) in
    let none : run_past a.site a.table.now a.mark a.i a.channel k ≤ k → m ≡ k + 1 = λ h. omega (arith, past, c.max-slot.ensures, h) in
    let wider : 480 * k + 480 ≤ 480 * m = omega (arith, c.max-slot.ensures) in
    let begins = c.loop-slot.invariant.2 inside in (
      omega (arith, past, most, c.max-slot.ensures, inside),
      rw (marks-next a.site a.table.now a.mark a.i a.channel k inside m run none begins)
          (put-wide (480 * m) wider
          (put_both (marks_of_kind a.site a.table.now a.mark a.i a.channel k) _ c.loop-slot.invariant.1
          (rw (c.run_phrase.ensures, past, c.slot_wide-wide.ensures, c.channel_high-high.ensures, c.down-y.ensures) at c.put_one_mark-next.ensures))),
      begins-next a.site a.table.now a.mark a.i a.channel k inside m run none,
    )
