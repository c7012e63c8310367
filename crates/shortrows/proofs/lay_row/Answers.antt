-- `shortrows::lay_row` meets its contract: what the fours leave is gone on with, one byte at a time. Assumes nothing.
use Rattle.std.proofs.Common.{arith, ◌≡◌, ◌∙◌, length}
use Rattle.laws.specs.Part.{list_of}
use Rattle.laws.proofs.Stores.{length-list, sets_more, sets-all}
use Rattle.shortrows.specs.Short.{mark_in}
use Rattle.shortrows.proofs.lay_row.Goals as goal

pub loop-p-preserved : goal.loop-p-preserved
loop-p-preserved c = let l = c.loop-p in
    sets_more (mark_in c.args.taken) l.p c.byte_at.result l.row c.args.row.now c.byte_at.ensures l.invariant

pub returns : goal.returns
returns c = let a = c.args in
    let e : c.loop-p.p ≡ length a.row.now = omega arith in
    (rw e at c.loop-p.invariant)
    ∙ sets-all (list_of (mark_in a.taken) (length a.row.now)) a.row.now (length-list (mark_in a.taken) (length a.row.now))
