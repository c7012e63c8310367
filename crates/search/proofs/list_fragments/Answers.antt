-- `search::list_fragments` meets its contract. What is listed, and what is left to list, are the fragments. Assumes nothing.
use Rattle.std.proofs.Common.{ℕ, get_or, arith}
use Rattle.search.proofs.Gather.{fill-same, fill-run, fill-past, fill_end-law, fragments-next, fragments-end}
use Rattle.search.proofs.list_fragments.Goals as goal

pub returns-then-to-gt24 : goal.returns-then-to-gt24
returns-then-to-gt24 c = let p = c.loop-i in
    let load : ℕ → ℕ = λ j. get_or c.args.loads j 0 in
    fill-past 24 _ p.owner p.count (load p.i) p.i _
    (fill-same 24 _ p.owner p.count _ _ p.invariant (fragments-next load p.i c.args.cells c.loop-i-test.true)) c.if-to-gt24.true

pub loop-i-preserved : goal.loop-i-preserved
loop-i-preserved c = let p = c.loop-i in
    let load : ℕ → ℕ = λ j. get_or c.args.loads j 0 in
    fill-run 24 _ p.owner p.count (load p.i) p.i _ _ _
    (fill-same 24 _ p.owner p.count _ _ p.invariant (fragments-next load p.i c.args.cells c.loop-i-test.true)) c.if-to-gt24.false
    (omega arith) (c.fill.ensures.after (λ y e. e))

pub returns : goal.returns
returns c = let p = c.loop-i in
    fill_end-law 24 _ p.owner p.count
    (fill-same 24 _ p.owner p.count _ _ p.invariant (fragments-end (λ j. get_or c.args.loads j 0) p.i c.args.cells c.loop-i-test.false))
