-- `files::length_ok` meets its contract: at each return the tests say which case of `length_ok` holds. Assumes nothing.
use Rattle.records.specs.Reasons.{length_ok}
use borrow.Author.Tests.{lt-ltb, le-ltb}
use Rattle.records.proofs.length_ok.Goals as goal

pub returns-then-n-lt2 : goal.returns-then-n-lt2
unfolding length_ok
returns-then-n-lt2 c = simp (lt-ltb _ _ c.if-n-lt2.true)

pub returns-in-Exact : goal.returns-in-Exact
unfolding length_ok
returns-in-Exact c = simp (le-ltb _ _ c.if-n-lt2.false, c.in-Exact.is)

pub returns-in-Pairs : goal.returns-in-Pairs
unfolding length_ok
returns-in-Pairs c = simp (le-ltb _ _ c.if-n-lt2.false, c.in-Pairs.is)
