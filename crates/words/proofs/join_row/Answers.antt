-- `words::join_row` meets its contract: a case for each way out. Assumes nothing.
use native.Mathlib.Omega.{arith}
use Rattle.words.proofs.Words.{marks-kept}
use Rattle.words.proofs.join_row.Goals as goal

pub returns-then-row-eq0 : goal.returns-then-row-eq0
returns-then-row-eq0 c = let a = c.args in record {
  joined = c.add_row.ensures;
  marked = marks-kept a.row a.n a.marks.now a.words.now a.table.now a.from
      (omega arith) (omega arith);
}
