-- `say_why::size_row` meets its contract: a case for each way out. Assumes nothing.
use native.Mathlib.Omega.{arith}
use borrow.Author.Tests.{lt-ltb, le-ltb, eq-eqb, ne_eqb}
use Rattle.say_why.proofs.size_row.Goals as goal

pub returns-then-most-lo : goal.returns-then-most-lo
returns-then-most-lo c = rw (lt-ltb c.args.most c.args.lo (omega arith))

pub returns-then-most-hi : goal.returns-then-most-hi
returns-then-most-hi c = rw (le-ltb c.args.most c.args.lo (omega arith), lt-ltb c.args.most c.args.hi (omega arith))

pub returns-then-lo-hi : goal.returns-then-lo-hi
returns-then-lo-hi c = let e = eq-eqb c.args.lo c.args.hi c.if-lo-hi.true in
    rw (le-ltb c.args.most c.args.lo (omega arith), le-ltb c.args.most c.args.hi (omega arith), e)

pub returns : goal.returns
returns c = let e = ne_eqb c.args.lo c.args.hi c.if-lo-hi.false in
    rw (le-ltb c.args.most c.args.lo (omega arith), le-ltb c.args.most c.args.hi (omega arith), e)
