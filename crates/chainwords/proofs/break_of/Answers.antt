-- `chainwords::break_of` meets its contract: the two searches in a row are the definition's; a cell that does not count has none. Assumes nothing.
use mathlib.Core.Bool.{◌&&◌}
use mathlib.Core.Path.{sym, ap, ◌∙◌}
use Prim.Native.Nat.{ℕ}
use lib.Bits.{bit_and}
use native.Mathlib.Omega.{arith}
use Rattle.laws.specs.Bits.{bit_at}
use Rattle.laws.specs.Choice.{pick}
use Rattle.laws.specs.Search.{first}
use Rattle.laws.proofs.Bits.{bit-and}
use Rattle.laws.proofs.Search.{first-same}
use Rattle.chainwords.specs.Chain.{gap_in, break_in}
use Rattle.chainwords.proofs.Rows.{gap-row-most}
use Rattle.chainwords.proofs.break_of.Goals as goal

-- the second search
abbrev past : ℕ → ℕ → ℕ → ℕ → ℕ
past row who a n = first (λ k. bit_at who k && bit_at row k) (gap_in row who a n) n

pub returns-then-not-has : goal.returns-then-not-has
unfolding break_in
returns-then-not-has c = let args = c.args in
    sym (ap (λ t. pick t (past args.row args.who args.a args.cells) args.cells) (sym c.has.ensures ∙ c.if-not-has.true))

pub lowest-requires : goal.lowest-requires
lowest-requires c = let args = c.args in
    omega (arith, gap-row-most args.row args.who args.a args.cells (omega arith), c.gap-b.ensures)

pub returns : goal.returns
unfolding break_in
returns c = let args = c.args in
    let b = c.gap-b.result in
    let most = gap-row-most args.row args.who args.a args.cells (omega arith) in
    c.lowest.ensures
    ∙ first-same (bit_at (bit_and args.who args.row)) (λ k. bit_at args.who k && bit_at args.row k) b args.cells
    (omega (arith, c.gap-b.ensures))
    (λ k _ _. bit-and args.who args.row k)
    ∙ ap (λ (n : ℕ). first (λ k. bit_at args.who k && bit_at args.row k) n args.cells) c.gap-b.ensures
    ∙ sym (ap (λ t. pick t (past args.row args.who args.a args.cells) args.cells)
    (sym c.has.ensures ∙ c.if-not-has.false))
