-- `say_picture::put_facts` meets its contract: no number of it is large, and what is open is a part of all. Assumes nothing.
use native.Mathlib.Omega.{arith}
use Rattle.laws.proofs.Sums.{count_most}
use Rattle.site.specs.Record.{positions}
use Rattle.site.specs.Reach.{is_open}
use Rattle.site.proofs.Faults.{few-positions}
use Rattle.say_picture.proofs.put_facts.Goals as goal

pub overflow_mul-n : goal.overflow_mul-n
overflow_mul-n c = omega (arith, few-positions c.requires.0)

pub overflow_sub-n : goal.overflow_sub-n
overflow_sub-n c = omega (arith, c.requires.1, count_most (is_open c.args.site.blocked) (positions c.args.site))

pub returns : goal.returns
returns c = rw c.requires.1 at c.put_fact.ensures
