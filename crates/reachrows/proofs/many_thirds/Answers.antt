-- `reachrows::many_thirds` meets its contract: before cell a, the rows of the cells below a are stored,
-- each by rule 2, its turned row and the rows that share a third cell with it. Assumes nothing.
use mathlib.Core.Path.{◌≡◌, refl, ap, ap₂, ◌∙◌}
use mathlib.Core.Bool.{◌&&◌, ◌||◌}
use mathlib.Core.List.{List}
use Prim.Native.Nat.{ℕ, ◌<◌}
use native.Mathlib.Omega.{arith}
use lib.Bits.{bit_or}
use lib.ListN.{get_or, length-set}
use Rattle.laws.specs.Bits.{bit_at, bit_in, word_of, clear_bit}
use Rattle.laws.specs.Sum.{any}
use Rattle.laws.proofs.Bits.{bit-either}
use Rattle.laws.proofs.Stores.{sets-none, sets_more}
use Rattle.laws.proofs.Words.{word-bit}
use Rattle.reachrows.specs.Rows.{reached_by_both}
use Rattle.square.proofs.Square.{turned_bit}
use Rattle.square.specs.Turned.{turned}
use Rattle.reachrows.proofs.Rule.{others_of, row-rule, third}
use Rattle.reachrows.proofs.many_thirds.Invariants.{row_in}
use Rattle.reachrows.proofs.many_thirds.Goals as goal

-- the word of those that reach a, joined with the word of those that reach a third cell with it
other : (reach columns thirds : List ℕ) (own shares a b : ℕ) → a < 32 → b < 32
    → columns ≡ turned reach → thirds ≡ others_of reach → own ≡ clear_bit (get_or reach a 0) a
    → shares ≡ word_of (λ k. any (λ c. bit_at own c && bit_in thirds k c) 32) 32
    → bit_at (bit_or (get_or columns a 0) shares) b ≡ (bit_in reach b a || reached_by_both reach a b)
other reach columns thirds own shares a b l m c t o s =
    bit-either (get_or columns a 0) shares b
    ∙ ap₂ ◌||◌ (ap (λ (z : List ℕ). bit_in z a b) c ∙ turned_bit reach a b l m)
    (ap (λ (x : ℕ). bit_at x b) s ∙ word-bit (λ k. any (λ c. bit_at own c && bit_in thirds k c) 32) 32 b m
    ∙ ap₂ (λ (x : ℕ) (z : List ℕ). any (λ c. bit_at x c && bit_in z b c) 32) o t ∙ third reach a b m)

pub loop-a-init : goal.loop-a-init
loop-a-init c = (omega arith, refl, sets-none _ _)

pub loop-a-preserved : goal.loop-a-preserved
loop-a-preserved c = let own = c.without_bit-own in
    let thirds = c.others-thirds in
    let columns = c.turned-columns in
    let args = c.args in
    let reach = args.reach in (
      omega arith,
      length-set c.loop-a.rows c.loop-a.a _ ∙ c.loop-a.invariant.1,
      sets_more (row_in reach args.cells) c.loop-a.a _ c.loop-a.rows _
          (c.clash_row.ensures
          ∙ row-rule 2 reach (bit_or (get_or columns.result c.loop-a.a 0) c.sharing.result) args.cells c.loop-a.a (λ b l.
          other reach columns.result thirds.result own.result c.sharing.result c.loop-a.a b (omega arith) (omega arith)
          columns.ensures thirds.ensures own.ensures c.sharing.ensures))
          c.loop-a.invariant.2,
    )
