-- `say_report::put_size` meets its contract: the row has the sizes of the record in their order. Assumes nothing.
use Rattle.say_report.proofs.put_size.Goals as goal

pub returns : goal.returns
returns c = c.put.ensures
