-- `putblocks::slots_end` meets its contract: the search from here on is the search from the slot after t on. Assumes nothing.
use mathlib.Core.Path.{◌≡◌, refl, sym, ap, ap₂, ◌∙◌}
use mathlib.Core.Bool.{Bool, not}
use Prim.Native.Nat.{ℕ}
use native.Mathlib.Omega.{arith}
use lib.Dec.{eqb}
use borrow.Author.Tests.{eq-eqb, ne_eqb}
use Rattle.laws.proofs.Search.{found, missed, ended}
use Rattle.putblocks.specs.Canon.{slot_word, slots_end}
use Rattle.putblocks.proofs.slots_end.Goals as goal

pub loop-u-init : goal.loop-u-init
unfolding slots_end
loop-u-init c = refl

pub returns-then-slot_word-x : goal.returns-then-slot_word-x
returns-then-slot_word-x c =
    let others : ℕ → Bool = λ v. let a = c.args in not (eqb (slot_word a.set.now a.channels v) (slot_word a.set.now a.channels a.t)) in
    let r = c.slot_word in
    found others c.loop-u.u c.args.slots c.loop-u.invariant (omega arith)
    (ap not (ap₂ eqb (sym r.ensures) (sym c.slot_word-x.ensures) ∙ ne_eqb r.result c.slot_word-x.result c.if-slot_word-x.true))

pub loop-u-preserved : goal.loop-u-preserved
loop-u-preserved c =
    let others : ℕ → Bool = λ v. let a = c.args in not (eqb (slot_word a.set.now a.channels v) (slot_word a.set.now a.channels a.t)) in
    let r = c.slot_word in
    missed others c.loop-u.u c.args.slots c.loop-u.invariant (omega arith)
    (ap not (ap₂ eqb (sym r.ensures) (sym c.slot_word-x.ensures) ∙ eq-eqb r.result c.slot_word-x.result c.if-slot_word-x.false))

pub returns : goal.returns
returns c =
    let others : ℕ → Bool = λ v. let a = c.args in not (eqb (slot_word a.set.now a.channels v) (slot_word a.set.now a.channels a.t)) in
    let e : c.args.slots ≡ c.loop-u.u = omega arith in
    e ∙ ended others c.loop-u.u c.args.slots c.loop-u.invariant (omega arith)
