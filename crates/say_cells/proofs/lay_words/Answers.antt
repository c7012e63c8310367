-- `say_cells::lay_words` meets its contract: before a slot, the words of the slots below it are stored. Assumes nothing.
use mathlib.Core.Path.{◌≡◌, refl, ap, ◌∙◌}
use Prim.Native.Nat.{ℕ}
use native.Mathlib.Omega.{arith}
use lib.ListN.{length, length-set}
use lib.Seq.{sets}
use Rattle.laws.specs.Part.{list_of}
use Rattle.laws.proofs.Stores.{sets-none, sets_more, sets-all, length-list}
use Rattle.say_cells.specs.Cells.{slot_channels}
use Rattle.say_cells.proofs.lay_words.Goals as goal

pub loop-slot-init : goal.loop-slot-init
loop-slot-init c = (omega arith, refl, refl, sets-none _ _)

pub slot_word-requires : goal.slot_word-requires
slot_word-requires c = (c.requires.0, c.requires.1, c.requires.2, c.requires.3)

pub loop-slot-preserved : goal.loop-slot-preserved
loop-slot-preserved c = let l = c.loop-slot in
    let a = c.args in (
      omega arith,
      refl,
      length-set l.words l.slot _ ∙ l.invariant.2,
      sets_more (slot_channels a.site a.table.now a.kind a.i) l.slot _ l.words a.words.now c.slot_word.ensures l.invariant.3,
    )

pub returns : goal.returns
returns c = let l = c.loop-slot in
    let a = c.args in
    let f : ℕ → ℕ = slot_channels a.site a.table.now a.kind a.i in
    let all : l.slot ≡ length a.words.now = omega (arith, c.loop-slot-test.false, l.invariant.0, l.invariant.1) in
    l.invariant.3 ∙ ap (λ (m : ℕ). sets a.words.now 0 (list_of f m)) all
    ∙ sets-all (list_of f (length a.words.now)) a.words.now (length-list f (length a.words.now))
