-- `say_diff::sends_at` meets its contract: past its end a table has no reservation. Assumes nothing.
use lib.ListN.{get_or-eq_default}
use Rattle.say_diff.proofs.sends_at.Goals as goal

pub returns-then-table-x : goal.returns-then-table-x
returns-then-table-x c = rw (get_or-eq_default c.args.table.now 0 c.if-table-x.true)
