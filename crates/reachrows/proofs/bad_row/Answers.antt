-- `reachrows::bad_row` meets its contract: where the pass found nothing, no index passes;
-- else a search, whose invariant says that the search that is left gives the answer. Assumes nothing.
use Rattle.std.proofs.Common.{arith, sym}
use Rattle.laws.proofs.Search.{first-none}
use Rattle.reachrows.proofs.bad_row.Invariants.{test}
use Rattle.reachrows.proofs.bad_row.Goals as goal

pub returns-then-faults_in-eq0 : goal.returns-then-faults_in-eq0
returns-then-faults_in-eq0 c = let args = c.args in
    sym (first-none (test args.cells args.reach.now) 0 32 (omega arith) (λ j l m. c.faults_in.ensures c.if-faults_in-eq0.true j m))
