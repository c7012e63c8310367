-- `standing::add_free` meets its contract: where nothing is lacking nothing is added, and else the steps come to it one after the other. Assumes nothing.
use mathlib.Core.Bool.{◌&&◌, not}
use native.Mathlib.Omega.{arith}
use Rattle.sets.specs.Sets.{in_set}
use Rattle.standing.proofs.Keeping.{none-added, some-added, lacking-still}
use Rattle.standing.proofs.add_free.Goals as goal

pub returns-then-lacking-eq0 : goal.returns-then-lacking-eq0
returns-then-lacking-eq0 c = let a = c.args in record {
  here = none-added a.here.now _ a.w a.lacking
      (λ q. in_set a.free.now q && not (in_set a.here.now q)) c.if-lacking-eq0.true c.keep_all.ensures;
  short = omega (arith, c.if-lacking-eq0.true);
}

pub returns : goal.returns
returns c = let a = c.args in record {
  here = some-added a.here.now a.free.now c.take_away.new.set c.take_first-short.new.set a.w a.lacking (omega arith) c.take_away.ensures
      c.take_first-short.ensures.set _ c.join_set.ensures;
  short = lacking-still a.here.now a.free.now c.take_away.new.set c.take_first-short.new.set a.w a.lacking (omega arith) c.take_away.ensures
      c.take_first-short.ensures.lacking;
}
