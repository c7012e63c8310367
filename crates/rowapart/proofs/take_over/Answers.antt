-- `rowapart::take_over` meets its contract: where nothing is taken over the word has all the cells that clash (`apart-near`), and else those whose marks the
-- row before has not (`apart-over`). Assumes nothing.
use mathlib.Core.Path.{◌≡◌, sym, ap₂, subst, ◌∙◌}
use mathlib.Core.Bool.{◌&&◌, not}
use Prim.Native.Nat.{ℕ, ◌+◌, ◌-◌, ◌^◌, ◌<◌}
use native.Mathlib.Omega.{arith}
use lib.Bits.{bit_or}
use lib.ListN.{get_or}
use Rattle.laws.specs.Bits.{bit_at, set_bit, word_of}
use Rattle.laws.proofs.Grid.{row_before}
use Rattle.laws.proofs.Words.{word_lt}
use Rattle.planrows.specs.Row.{near_in}
use Rattle.rowapart.proofs.Apart.{apart-near, apart-over}
use Rattle.rowapart.proofs.take_over.Goals as goal

pub returns-then-i-lt6 : goal.returns-then-i-lt6
returns-then-i-lt6 c =
    let near-few : c.near_of-near.result < 2 ^ c.args.i = let a = c.args in
    subst (λ (x : ℕ). x < 2 ^ a.i) (sym c.near_of-near.ensures) (word_lt (bit_at (get_or a.clash.now a.i 0)) a.i) in
    let a = c.args in record {
      few = near-few;
      marks = apart-near a.n a.i a.table.now a.row.now c.requires.i_bound.1 c.requires.i_bound.2 a.clash.now
          c.requires.rows_marked.1 c.near_of-near.ensures;
    }

pub overflow_sub-before : goal.overflow_sub-before
overflow_sub-before c = omega (arith, c.if-i-lt6.false)

pub group_of-group-requires : goal.group_of-group-requires
group_of-group-requires c = omega (arith, c.requires.i_bound.0)

pub returns-then-group-near : goal.returns-then-group-near
returns-then-group-near c =
    let near-few : c.near_of-near.result < 2 ^ c.args.i = let a = c.args in
    subst (λ (x : ℕ). x < 2 ^ a.i) (sym c.near_of-near.ensures) (word_lt (bit_at (get_or a.clash.now a.i 0)) a.i) in
    let a = c.args in record {
      few = near-few;
      marks = apart-near a.n a.i a.table.now a.row.now c.requires.i_bound.1 c.requires.i_bound.2 a.clash.now
          c.requires.rows_marked.1 c.near_of-near.ensures;
    }

pub cover_by-requires : goal.cover_by-requires
cover_by-requires c = let a = c.args in
    let low : a.i - 1 < a.i = omega (arith, c.if-i-lt6.false) in
    (c.requires.i_bound.1, omega (arith, row_before a.n low, c.requires.i_bound.2))

pub returns : goal.returns
returns c =
    let near-few : c.near_of-near.result < 2 ^ c.args.i = let a = c.args in
    subst (λ (x : ℕ). x < 2 ^ a.i) (sym c.near_of-near.ensures) (word_lt (bit_at (get_or a.clash.now a.i 0)) a.i) in
    let a = c.args in
    let j = a.i - 1 in
    let next : a.i ≡ j + 1 = omega (arith, c.if-i-lt6.false) in
    let same : bit_or c.group_of-group.result c.near_of-near.result ≡ c.near_of-near.result = omega (arith, c.if-group-near.false) in
    let inside : bit_or (set_bit (near_in a.clash.now j) j) (near_in a.clash.now a.i) ≡ near_in a.clash.now a.i
    = ap₂ (λ (x y : ℕ). bit_or x y) (sym c.group_of-group.ensures) (sym c.near_of-near.ensures) ∙ same ∙ c.near_of-near.ensures in
    let word = c.apart.ensures.0
    ∙ ap₂ (λ (x y : ℕ). word_of (λ b. bit_at x b && not (bit_at y b)) 32) c.near_of-near.ensures c.group_of-group.ensures in record {
      few = omega (arith, c.apart.ensures.1, near-few);
      marks = apart-over a.n a.i a.table.now a.row.now c.cover_by.new.row c.requires.i_bound.1 c.requires.i_bound.2 a.clash.now c.requires.rows_marked.1 j next
          c.cover_by.ensures c.requires.i_bound.0 c.requires.rows_marked.0 inside word;
    }
