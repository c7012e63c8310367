-- `say_runs::lay_bits` meets its contract: before bit f, that many are stored. Assumes nothing.
use mathlib.Core.Path.{◌≡◌, refl, ap, ◌∙◌}
use Prim.Native.Nat.{ℕ}
use native.Mathlib.Omega.{arith}
use lib.ListN.{length, length-set}
use lib.Seq.{sets}
use Rattle.laws.specs.Part.{list_of}
use Rattle.laws.proofs.Stores.{sets-none, sets_more, sets-all, length-list}
use Rattle.say_runs.proofs.lay_bits.Invariants.{bit_from}
use Rattle.say_runs.proofs.lay_bits.Goals as goal

pub loop-f-init : goal.loop-f-init
loop-f-init c = (omega arith, refl, refl, sets-none _ _)

pub loop-f-preserved : goal.loop-f-preserved
loop-f-preserved c = let l = c.loop-f in
    let a = c.args in (
      omega arith,
      refl,
      length-set l.bits l.f _ ∙ l.invariant.2,
      sets_more (bit_from a.word) l.f _ l.bits a.bits.now c.bit_in.ensures l.invariant.3,
    )

pub returns : goal.returns
returns c = let l = c.loop-f in
    let a = c.args in
    let all : l.f ≡ length a.bits.now = omega (arith, c.loop-f-test.false, l.invariant.0, l.invariant.1) in
    l.invariant.3 ∙ ap (λ (m : ℕ). sets a.bits.now 0 (list_of (bit_from a.word) m)) all
    ∙ sets-all (list_of (bit_from a.word) (length a.bits.now)) a.bits.now (length-list (bit_from a.word) (length a.bits.now))
