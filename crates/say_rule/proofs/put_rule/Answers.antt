-- `say_rule::put_rule` meets its contract: the rule's phrase is put. Assumes nothing.
use Rattle.say_rule.proofs.put_rule.Goals as goal

pub returns : goal.returns
returns c = rw c.rule_phrase.ensures at c.put.ensures
