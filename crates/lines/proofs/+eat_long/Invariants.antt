-- `lines::eat_long` meets its contract: a mirror of `put_number`: the digits of the tenth part, then one more; to eat one text and then another is to eat
-- both. The measure is the number. Assumes nothing.
use Rattle.lines.proofs.+eat_long.Given as goal

abbrev pub decreases-eat_long : goal.decreases-eat_long
decreases-eat_long l = l.x
