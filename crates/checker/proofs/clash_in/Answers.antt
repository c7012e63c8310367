-- `checker::clash_in` meets its contract: the lowest mark is the lowest clash. Assumes nothing.
use mathlib.Core.Path.{◌∙◌}
use native.Mathlib.Omega.{arith}
use lib.ListN.{get_or-replicate}
use Rattle.checker.specs.Marks.{clashing_in}
use Rattle.checker.proofs.Marks.{marks-lowest}
use borrow.Author.Rules.{rules}
use Rattle.checker.proofs.clash_in.Goals as goal

pub mark_clashes-requires : goal.mark_clashes-requires
mark_clashes-requires c = record {
  cells_bound = search rules;
  zeros =
      ((λ k l. get_or-replicate 64 k 0 0 (omega arith)), (λ k l. get_or-replicate 64 k 0 0 (omega arith)));
}

pub returns : goal.returns
returns c = let a = c.args in
    c.lowest_marked.ensures
    ∙ marks-lowest (clashing_in a.cells a.n a.clash.now a.table.now) a.from a.m c.mark_clashes.new.marks c.mark_clashes.ensures
