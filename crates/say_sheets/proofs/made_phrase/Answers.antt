-- `say_sheets::made_phrase` meets its contract: the test. Assumes nothing.
use Rattle.say_sheets.proofs.Said.{made_one, made_some}
use Rattle.say_sheets.proofs.made_phrase.Goals as goal

pub returns-then-clashes-eq1 : goal.returns-then-clashes-eq1
returns-then-clashes-eq1 c = made_one _ _ c.clash_count-clashes.ensures c.if-clashes-eq1.true

pub returns : goal.returns
returns c = made_some _ _ c.clash_count-clashes.ensures c.if-clashes-eq1.false
