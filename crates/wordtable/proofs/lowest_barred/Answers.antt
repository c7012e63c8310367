-- `wordtable::lowest_barred` meets its contract: where no position is blocked there is none. Assumes nothing.
use mathlib.Core.Path.{sym, ◌∙◌}
use native.Mathlib.Omega.{arith}
use borrow.Author.Tests.{not-true}
use Rattle.wordtable.proofs.Judged.{none-barred}
use Rattle.wordtable.proofs.lowest_barred.Goals as goal

pub returns-then-none_blocked : goal.returns-then-none_blocked
returns-then-none_blocked c = let a = c.args in
    none-barred a.cells a.n a.blocked.now a.words.now (omega arith) (not-true _ (sym c.none_blocked.ensures ∙ c.if-none_blocked.true))

pub returns : goal.returns
returns c = c.first_barred.ensures
