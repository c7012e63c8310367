-- `demands::demand` meets its contract: a row cut below i has the cells below i of the row, and so their loads. Assumes nothing.
use mathlib.Core.Bool.{◌&&◌, false, and-true, and-false}
use mathlib.Core.List.{List}
use mathlib.Core.Path.{◌≡◌, ap, ap₂, ◌∙◌}
use Prim.Native.Nat.{ℕ, ◌+◌, ◌-◌, ◌^◌, ◌≤◌, ◌<◌}
use native.Mathlib.Omega.{arith}
use borrow.Author.Tests.{lt-ltb, le-ltb}
use lib.Bits.{bit_and}
use lib.ListN.{get_or}
use Rattle.laws.specs.Bits.{bit_at}
use Rattle.laws.specs.Choice.{pick}
use Rattle.laws.proofs.Bits.{one_shl}
use Rattle.laws.proofs.Lowest.{bit-all}
use Rattle.laws.proofs.Bits.{bit-and}
use Rattle.laws.proofs.Sums.{sum-eq, sum-stop}
use Rattle.loads.specs.Loads.{loads_below, loads_in}
use Rattle.demands.proofs.demand.Goals as goal

module _ (loads : List ℕ) (row i : ℕ) where
  abbrev word : ℕ
  word = bit_and row (2 ^ i - 1)

  near : (j : ℕ) → j < i → bit_at word j ≡ bit_at row j
  near j h = bit-and row (2 ^ i - 1) j ∙ ap (λ t. bit_at row j && t) (bit-all i j ∙ lt-ltb j i h) ∙ and-true (bit_at row j)

  far : (j : ℕ) → i ≤ j → bit_at word j ≡ false
  far j h = bit-and row (2 ^ i - 1) j ∙ ap (λ t. bit_at row j && t) (bit-all i j ∙ le-ltb j i h) ∙ and-false (bit_at row j)

  cut : i ≤ 32 → loads_in loads word ≡ loads_below loads row i
  cut h =
      sum-stop (λ j. pick (bit_at word j) (get_or loads j 0) 0) i 32 h (λ j g. ap (λ t. pick t (get_or loads j 0) 0) (far j g))
      ∙ sum-eq (λ j. pick (bit_at word j) (get_or loads j 0) 0) (λ j. pick (bit_at row j) (get_or loads j 0) 0) i
      (λ j g. ap (λ t. pick t (get_or loads j 0) 0) (near j g))

pub returns : goal.returns
returns c = let args = c.args in
    let masked = ap (λ (n : ℕ). loads_in args.loads.now (bit_and args.row (n - 1))) (one_shl args.i (omega arith)) in
    ap₂ (λ (m n : ℕ). m + n) c.wide.ensures.0 (c.loads_of.ensures.0 ∙ masked ∙ cut args.loads.now args.row args.i (omega arith))
