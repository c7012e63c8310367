-- `search::start` meets its contract: a case for each way out. Assumes nothing.
use mathlib.Core.Bool.{and-false}
use borrow.Author.Tests.{lt-ltb, le-ltb, eq-eqb, ne_eqb}
use Rattle.search.specs.Hunt.{start_of}
use Rattle.search.proofs.start.Goals as goal

pub returns-then-owner-d : goal.returns-then-owner-d
unfolding start_of
returns-then-owner-d c = rw (lt-ltb _ _ c.if-d-owner.true, eq-eqb _ _ c.if-owner-d.true)

pub returns-else-owner-d : goal.returns-else-owner-d
unfolding start_of
returns-else-owner-d c = rw (ne_eqb _ _ c.if-owner-d.false, and-false)

pub returns-else-d-owner : goal.returns-else-d-owner
unfolding start_of
returns-else-d-owner c = rw (le-ltb _ _ c.if-d-owner.false)
