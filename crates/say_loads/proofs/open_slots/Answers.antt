-- `say_loads::open_slots` meets its contract: no number of it is large. Assumes nothing.
use native.Mathlib.Omega.{arith}
use Rattle.site.proofs.Faults.{few-positions}
use Rattle.say_loads.proofs.open_slots.Goals as goal

pub overflow_mul-n : goal.overflow_mul-n
overflow_mul-n c = omega (arith, few-positions c.requires)

pub open_count-requires : goal.open_count-requires
open_count-requires c = few-positions c.requires
