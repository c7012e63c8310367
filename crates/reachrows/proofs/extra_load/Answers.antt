-- `reachrows::extra_load` meets its contract: where the pass found nothing, no index passes;
-- else a search, whose invariant says that the search that is left gives the answer. Assumes nothing.
use Rattle.std.proofs.Common.{arith, sym, ◌≡◌, get_or}
use borrow.Author.Tests.{le-ltb}
use Rattle.laws.proofs.Search.{first-none}
use Rattle.reachrows.proofs.extra_load.Invariants.{test}
use Rattle.reachrows.proofs.extra_load.Goals as goal

pub returns-then-loads_past-eq0 : goal.returns-then-loads_past-eq0
returns-then-loads_past-eq0 c = let args = c.args in
    let loads = args.loads.now in
    sym
    (first-none (test loads) args.cells 32 (omega arith) (λ j l m.
    let none : get_or loads j 0 ≡ 0 = c.loads_past.ensures c.if-loads_past-eq0.true j l m in
    le-ltb 0 (get_or loads j 0) (omega arith)))
