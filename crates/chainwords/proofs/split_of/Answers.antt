-- `chainwords::split_of` meets its contract: a cell that does not count has none; else the search is that of the cells that clash with it. Assumes nothing.
use Prim.Native.Nat.{ℕ}
use mathlib.Core.List.{List}
use mathlib.Core.Path.{sym, ap, ◌∙◌}
use lib.Bits.{bit_and}
use lib.ListN.{get_or}
use Rattle.laws.specs.Choice.{pick}
use Rattle.chainwords.specs.Chain.{far_in, split_in}
use Rattle.chainwords.proofs.split_of.Goals as goal

-- the search of a cell that counts
abbrev whole : ℕ → List ℕ → ℕ → ℕ
whole who rows i = far_in rows (bit_and who (get_or rows i 0)) i

pub returns-then-not-has : goal.returns-then-not-has
unfolding split_in
returns-then-not-has c = let args = c.args in
    sym (ap (λ t. pick t (whole args.who args.clash.now args.i) args.i) (sym c.has.ensures ∙ c.if-not-has.true))

pub returns : goal.returns
unfolding split_in
returns c = let args = c.args in
    c.first_far.ensures
    ∙ sym (ap (λ t. pick t (whole args.who args.clash.now args.i) args.i)
    (sym c.has.ensures ∙ c.if-not-has.false))
