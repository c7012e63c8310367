-- `rowapart::forbid_by` meets its contract. At each head of the loop the row is the one handed in, marked by the first p positions of row j: before `start` and
-- from `end` on there is nothing to mark. Assumes nothing.
use Rattle.std.proofs.Common.{arith, ◌≡◌, ◌∙◌}
use Rattle.rowapart.proofs.Passes.{forbid-start, forbid-end, forbid-turn}
use Rattle.rowapart.proofs.forbid_by.Goals as goal

pub loop-p-init : goal.loop-p-init
loop-p-init c = forbid-start _ _ _ _ c.requires.row_len.0 c.requires.row_len.1 _ _ c.requires.sends_in

pub loop-p-preserved : goal.loop-p-preserved
loop-p-preserved c = forbid-turn _ _ _ _ c.requires.row_len.0 c.requires.row_len.1 c.loop-p.p _ (omega arith) c.loop-p.invariant c.mark.ensures

pub returns : goal.returns
returns c = let e : c.loop-p.p ≡ c.args.end = omega arith in
    (rw e at c.loop-p.invariant) ∙ forbid-end _ _ _ _ c.requires.row_len.0 c.requires.row_len.1 _ _ c.requires.sends_in
