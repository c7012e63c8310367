-- `search::list_opens` meets its contract: what is listed, and what is left to list, are the open positions. Assumes nothing.
use Rattle.std.proofs.Common.{not, sym, ap, ◌∙◌, arith}
use Rattle.site.specs.Reach.{is_open}
use Rattle.search.proofs.Gather.{fill-same, fill-push, fill_end-law, fill-past, opens-push, opens-skip, opens-end}
use Rattle.search.proofs.list_opens.Goals as goal

pub loop-k-preserved-then-is_blocked : goal.loop-k-preserved-then-is_blocked
loop-k-preserved-then-is_blocked c = let p = c.loop-k in
    let shut = ap not (sym c.is_blocked.ensures ∙ c.if-is_blocked.true) in
    fill-same 64 _ p.at p.count _ _ p.invariant (opens-skip (is_open c.args.blocked.now) p.k c.args.n c.loop-k-test.true shut)

pub returns-then-count-eq64 : goal.returns-then-count-eq64
returns-then-count-eq64 c = let p = c.loop-k in
    let free = ap not (sym c.is_blocked.ensures ∙ c.if-is_blocked.false) in
    fill-past 64 _ p.at p.count 1 p.k _
    (fill-same 64 _ p.at p.count _ _ p.invariant (opens-push (is_open c.args.blocked.now) p.k c.args.n c.loop-k-test.true free)) (omega arith)

pub loop-k-preserved : goal.loop-k-preserved
loop-k-preserved c = let p = c.loop-k in
    let free = ap not (sym c.is_blocked.ensures ∙ c.if-is_blocked.false) in
    fill-push 64 _ p.at p.count p.k _
    (fill-same 64 _ p.at p.count _ _ p.invariant (opens-push (is_open c.args.blocked.now) p.k c.args.n c.loop-k-test.true free))
    (omega (arith, p.invariant.most))

pub returns : goal.returns
returns c = let p = c.loop-k in
    fill_end-law 64 _ p.at p.count (fill-same 64 _ p.at p.count _ _ p.invariant (opens-end (is_open c.args.blocked.now) p.k c.args.n c.loop-k-test.false))
