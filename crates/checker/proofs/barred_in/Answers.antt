-- `checker::barred_in` meets its contract: the lowest mark of the word is the answer. Assumes nothing.
use mathlib.Core.Path.{◌∙◌}
use native.Mathlib.Omega.{arith}
use lib.ListN.{get_or-replicate}
use Rattle.checker.proofs.Barred.{no_word, marks-word}
use borrow.Author.Rules.{rules}
use Rattle.checker.proofs.barred_in.Goals as goal

pub returns-then-word-eq0 : goal.returns-then-word-eq0
returns-then-word-eq0 c = let a = c.args in
    no_word a.cells a.n a.table.now a.from a.m a.word c.if-word-eq0.true

pub mark_held-requires : goal.mark_held-requires
mark_held-requires c = record { cells_bound = search rules; zeros = (λ k l. get_or-replicate 64 k 0 0 (omega arith)) }

pub returns : goal.returns
returns c = let a = c.args in
    c.lowest_in.ensures
    ∙ marks-word a.cells a.n a.table.now a.from a.m a.word c.mark_held.new.marks c.mark_held.ensures
