-- `rows::forbid_row` meets its contract. At each head of the loop the table is the one handed in with the first p positions of row i marked
-- (`half`): before `start` and from `end` on there is nothing to mark. Assumes nothing.
use Rattle.std.proofs.Common.{arith, ◌≡◌, ◌∙◌}
use Rattle.rows.proofs.Forbid.{half-start, half-end, half-more}
use Rattle.rows.proofs.forbid_row.Goals as goal

pub loop-p-init : goal.loop-p-init
loop-p-init c = half-start _ _ _ _ c.requires.j_lt_i.0 c.requires.j_lt_i.1 _ _ c.requires.sends_in

pub loop-p-preserved : goal.loop-p-preserved
loop-p-preserved c = half-more _ _ _ _ c.requires.j_lt_i.0 c.requires.j_lt_i.1 c.loop-p.p (omega arith) c.loop-p.invariant c.mark.ensures

pub returns : goal.returns
returns c = let e : c.loop-p.p ≡ c.args.end = omega arith in
    (rw e at c.loop-p.invariant) ∙ half-end _ _ _ _ c.requires.j_lt_i.0 c.requires.j_lt_i.1 _ _ c.requires.sends_in
