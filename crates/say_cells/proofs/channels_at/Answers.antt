-- `say_cells::channels_at` meets its contract: before channel f, the word of the channels below it. Assumes nothing.
use Prim.Native.Nat.{ℕ, ◌<◌}
use mathlib.Core.Path.{sym, ap₂, ◌∙◌}
use mathlib.Core.Bool.{Bool}
use mathlib.Core.List.{List}
use native.Mathlib.Omega.{arith}
use lib.Bits.{bit_or}
use lib.ListN.{get_or}
use Rattle.laws.specs.Choice.{pick}
use Rattle.laws.proofs.Bits.{one_shl}
use Rattle.laws.proofs.Words.{word-zero, word_more}
use Rattle.say_faults.proofs.Ready.{ready-sizes}
use Rattle.say_cells.specs.Cells.{held_as}
use Rattle.say_cells.proofs.channels_at.Invariants.{test}
use Rattle.say_cells.proofs.channels_at.Goals as goal

pub bounds-clash-i : goal.bounds-clash-i
bounds-clash-i c = omega (arith, c.requires.3, (ready-sizes c.args.site c.args.table.now c.requires.0).cells_most)

pub loop-f-init : goal.loop-f-init
loop-f-init c = let a = c.args in
    sym (word-zero (test a.site a.table.now a.kind a.i a.slot))

pub held_as-held-requires : goal.held_as-held-requires
held_as-held-requires c = omega (arith, c.requires.3, (ready-sizes c.args.site c.args.table.now c.requires.0).cells_most)

pub overflow_shl-f : goal.overflow_shl-f
overflow_shl-f c = omega (arith, (ready-sizes c.args.site c.args.table.now c.requires.0).channels_most)

pub loop-f-preserved : goal.loop-f-preserved
loop-f-preserved c =
    let a = c.args in
    let small : c.loop-f.f < 32 = omega (arith, (ready-sizes a.site a.table.now c.requires.0).channels_most) in
    let held = c.held_as-held.ensures ∙ ap₂ (λ (r : List ℕ) q. held_as a.kind (get_or r a.i 0) a.i q) c.requires.1 c.place_at-place.ensures in
    ap₂ bit_or c.loop-f.invariant (c.weight_if-word.ensures ∙ ap₂ (λ (t : Bool) x. pick t x 0) held (one_shl c.loop-f.f small))
    ∙ word_more (test a.site a.table.now a.kind a.i a.slot) c.loop-f.f
