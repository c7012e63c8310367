-- `standing::stand` meets its contract: what each step leaves, one after the other, comes to the rule. Assumes nothing.
use native.Mathlib.Omega.{arith}
use Rattle.standing.proofs.Keeping.{turn-stands, turn-short, turn-changes}
use Rattle.standing.proofs.stand.Goals as goal

pub returns : goal.returns
returns c = let a = c.args in record {
  here = turn-stands a.here.now a.free.now a.old.now a.w a.load (omega arith) c.meet_of.new.to c.take_first-lacking.new.set
      c.add_free-short.new.here c.take_first-lacking.result c.meet_of.ensures c.take_first-lacking.ensures.set
      c.take_first-lacking.ensures.lacking c.add_free-short.ensures.here;
  short = turn-short a.here.now a.free.now a.old.now a.w a.load (omega arith) c.meet_of.new.to c.take_first-lacking.new.set
      c.add_free-short.new.here c.take_first-lacking.result c.meet_of.ensures c.take_first-lacking.ensures.set
      c.take_first-lacking.ensures.lacking c.add_free-short.ensures.here c.add_free-short.ensures.short;
  changes = turn-changes a.here.now a.free.now a.old.now a.w a.load (omega arith) c.meet_of.new.to c.take_first-lacking.new.set
      c.add_free-short.new.here c.take_first-lacking.result c.meet_of.ensures c.take_first-lacking.ensures.set
      c.take_first-lacking.ensures.lacking c.add_free-short.ensures.here c.unlike_count-changes.ensures;
}
