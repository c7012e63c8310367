-- `cleaning::clean` meets its contract: what was written so far, and what is left of the sheet cleaned from here, is the cleaned sheet. Assumes nothing.
use mathlib.Core.List.{[], ◌++◌}
use native.Mathlib.Omega.{arith}
use Rattle.cleaning.specs.Clean.{out_of}
use Rattle.cleaning.proofs.Kept.{kept-none, kept-both, kept-stored, clean-begin, clean-taken, clean-last}
use Rattle.cleaning.proofs.Fields.{separator-is}
use Rattle.cleaning.proofs.clean.Goals as goal

pub loop-i-init : goal.loop-i-init
loop-i-init c = ([], kept-none _ 0 (omega arith), clean-begin _ _ _ _ c.separator-sep.ensures c.first_spot-spot.ensures c.begin-i.ensures.value)

pub take_next-taken-requires : goal.take_next-taken-requires
take_next-taken-requires c = (omega arith, rw c.separator-sep.ensures (separator-is c.args.s.now))

pub put_step-at-requires : goal.put_step-at-requires
put_step-at-requires c = let w = c.loop-i.invariant.1 in omega (arith, w.inside, w.long)

pub overflow_add-i : goal.overflow_add-i
overflow_add-i c = omega arith

pub loop-i-smaller : goal.loop-i-smaller
loop-i-smaller c = omega arith

pub loop-i-preserved : goal.loop-i-preserved
loop-i-preserved c = let w = c.loop-i.invariant in (
  w.0 ++ out_of c.take_next-taken.result.step,
  kept-both w.1 c.put_step-at.ensures,
  clean-taken _ _ c.loop-i.spot c.loop-i.i w.0 c.take_next-taken.result.step w.2 c.take_next-taken.result.count c.take_next-taken.ensures.same,
)

pub put_step-requires : goal.put_step-requires
put_step-requires c = let w = c.loop-i.invariant.1 in omega (arith, w.inside, w.long)

pub shape_of-out : goal.shape_of-out
shape_of-out c = (kept-both c.loop-i.invariant.1 c.put_step.ensures).long

pub returns : goal.returns
returns c = let w = c.loop-i.invariant in let all_told = kept-stored
    (rw (clean-last _ _ c.loop-i.spot c.loop-i.i w.0 c.end_of.result w.2 (omega arith) c.end_of.ensures) at
    (kept-both w.1 c.put_step.ensures)) in record { stored = all_told.0; size = all_told.1 }
