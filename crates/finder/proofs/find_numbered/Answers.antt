-- `finder::find_numbered` meets its contract: the renumbered site is accepted and as large as the site, and each new number names a cell. Assumes nothing.
use Rattle.finder.proofs.Numbered.{moved_ready}
use Rattle.finder.proofs.find_numbered.Goals as goal

pub plan_back-requires-clause-moved_value : goal.plan_back-requires-clause-moved_value
plan_back-requires-clause-moved_value c = moved_ready c.args.site c.args.limit c.renumber-found.result c.renumber-found.ensures c.in-Ok.is
