-- `planrows::take_over` meets its contract: where nothing is taken over the word has all the cells that clash (`by_near`), and else those whose marks the row
-- before has not (`by_over`). Assumes nothing.
use mathlib.Core.Path.{◌≡◌, sym, ap₂, subst, ◌∙◌}
use mathlib.Core.Bool.{◌&&◌, not}
use Prim.Native.Nat.{ℕ, ◌+◌, ◌-◌, ◌*◌, ◌^◌, ◌<◌}
use native.Mathlib.Omega.{arith}
use lib.Bits.{bit_or}
use lib.ListN.{get_or}
use Rattle.laws.specs.Bits.{bit_at, set_bit, word_of}
use Rattle.laws.specs.Part.{list_of}
use Rattle.laws.proofs.Part.{put-part}
use Rattle.laws.proofs.Stores.{length-list}
use Rattle.laws.proofs.Words.{word_lt}
use Rattle.rows.specs.Stretch.{cover_at}
use Rattle.planrows.specs.Row.{near_in}
use Rattle.planrows.proofs.Over.{row_put, by_near, by_over}
use Rattle.planrows.proofs.take_over.Goals as goal

pub returns-then-i-lt6 : goal.returns-then-i-lt6
returns-then-i-lt6 c =
    let near-few : c.near_of-near.result < 2 ^ c.args.i = let a = c.args in
    subst (λ (x : ℕ). x < 2 ^ a.i) (sym c.near_of-near.ensures) (word_lt (bit_at (get_or a.clash.now a.i 0)) a.i) in
    let a = c.args in record {
      few = near-few;
      row = sym (put-part (a.i * a.n) a.n a.table.now c.requires.i_bound.1);
      marks = by_near a.clash.now a.n a.i a.table.now c.requires.i_bound.1 c.requires.rows_marked.1 c.near_of-near.ensures;
    }

pub overflow_sub-before : goal.overflow_sub-before
overflow_sub-before c = omega (arith, c.if-i-lt6.false)

pub group_of-group-requires : goal.group_of-group-requires
group_of-group-requires c = omega (arith, c.requires.i_bound.0)

pub returns-then-group-near : goal.returns-then-group-near
returns-then-group-near c =
    let near-few : c.near_of-near.result < 2 ^ c.args.i = let a = c.args in
    subst (λ (x : ℕ). x < 2 ^ a.i) (sym c.near_of-near.ensures) (word_lt (bit_at (get_or a.clash.now a.i 0)) a.i) in
    let a = c.args in record {
      few = near-few;
      row = sym (put-part (a.i * a.n) a.n a.table.now c.requires.i_bound.1);
      marks = by_near a.clash.now a.n a.i a.table.now c.requires.i_bound.1 c.requires.rows_marked.1 c.near_of-near.ensures;
    }

pub cover_row-requires : goal.cover_row-requires
cover_row-requires c = (omega (arith, c.if-i-lt6.false), c.requires.i_bound.1)

pub returns : goal.returns
returns c =
    let near-few : c.near_of-near.result < 2 ^ c.args.i = let a = c.args in
    subst (λ (x : ℕ). x < 2 ^ a.i) (sym c.near_of-near.ensures) (word_lt (bit_at (get_or a.clash.now a.i 0)) a.i) in
    let a = c.args in
    let j = a.i - 1 in
    let next : a.i ≡ j + 1 = omega (arith, c.if-i-lt6.false) in
    let same : bit_or c.group_of-group.result c.near_of-near.result ≡ c.near_of-near.result = omega (arith, c.if-group-near.false) in
    let inside : bit_or (set_bit (near_in a.clash.now j) j) (near_in a.clash.now a.i) ≡ near_in a.clash.now a.i
    = ap₂ (λ (x y : ℕ). bit_or x y) (sym c.group_of-group.ensures) (sym c.near_of-near.ensures) ∙ same ∙ c.near_of-near.ensures in
    let word = c.apart.ensures.0
    ∙ ap₂ (λ (x y : ℕ). word_of (λ b. bit_at x b && not (bit_at y b)) 32) c.near_of-near.ensures c.group_of-group.ensures in record {
      few = omega (arith, c.apart.ensures.1, near-few);
      row = row_put (a.i * a.n) a.n (list_of (cover_at a.n a.table.now j a.i) a.n) a.table.now
          (length-list (cover_at a.n a.table.now j a.i) a.n) c.requires.i_bound.1 c.cover_row.ensures;
      marks = by_over a.clash.now a.n a.i a.table.now c.requires.i_bound.1 c.requires.rows_marked.1 j next c.requires.i_bound.0 c.requires.rows_marked.0 inside
          word
          c.cover_row.ensures;
    }
