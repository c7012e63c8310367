-- `text::put_few` meets its contract: one digit, or two. Assumes nothing.
use native.Mathlib.Omega.{arith}
use native.Mathlib.Numerals.{add-one}
use Rattle.text.proofs.Digits.{decimal-one, decimal-two, one-long, two-long}
use lib.ListN.{length-set}
use Rattle.text.proofs.put_few.Goals as goal

pub bounds-out-at : goal.bounds-out-at
bounds-out-at c = omega (arith, c.requires.1, one-long c.args.x (omega arith))

pub returns-then-x-lt10 : goal.returns-then-x-lt10
returns-then-x-lt10 c = record { stored = rw (decimal-one c.args.x (omega arith)); next = rw (one-long c.args.x (omega arith)) }

pub bounds-out-at-2 : goal.bounds-out-at-2
bounds-out-at-2 c = omega (arith, c.requires.1, two-long c.args.x (omega arith) c.requires.0)

pub bounds-out-at-3 : goal.bounds-out-at-3
bounds-out-at-3 c = simp length-set (omega (arith, c.requires.1, two-long c.args.x (omega arith) c.requires.0))

pub returns : goal.returns
returns c = record {
  stored = rw (decimal-two c.args.x (omega arith) c.requires.0, add-one c.args.at);
  next = rw
      (two-long c.args.x (omega arith) c.requires.0);
}
