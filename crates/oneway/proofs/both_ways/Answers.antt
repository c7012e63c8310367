-- `oneway::both_ways-law` meets its contract: before row a, the rows below a are stored, each with the bits that its turned row has too. Assumes nothing.
use mathlib.Core.Path.{◌≡◌, refl, ap, ◌∙◌}
use mathlib.Core.Bool.{◌&&◌}
use mathlib.Core.List.{List}
use Prim.Native.Nat.{ℕ, ◌^◌, ◌<◌}
use native.Mathlib.Omega.{arith}
use lib.Bits.{bit_and, and_le_r}
use lib.ListN.{get_or, length-set}
use Rattle.laws.specs.Bits.{bit_in}
use Rattle.laws.proofs.Bits.{bit-and}
use Rattle.laws.proofs.Stores.{length-list, sets-none, sets_more, sets-all}
use Rattle.laws.proofs.Words.{bits-eq}
use Rattle.square.specs.Turned.{turned}
use Rattle.square.proofs.Square.{turned_bit, turned_lt}
use Rattle.oneway.specs.TwoWay.{two_way_rows}
use Rattle.oneway.proofs.both_ways.Invariants.{row_in}
use Rattle.oneway.proofs.both_ways.Goals as goal

-- what the code stores in a row
stored : (reach back : List ℕ) (a : ℕ) → a < 32 → back ≡ turned reach → bit_and (get_or reach a 0) (get_or back a 0) ≡ row_in reach a
stored reach back a h e =
    let fits : get_or back a 0 < 2 ^ 32 = rw e (turned_lt reach a h) in
    bits-eq (λ b. bit_in reach a b && bit_in reach b a) (bit_and (get_or reach a 0) (get_or back a 0)) 32
    (omega (arith, and_le_r (get_or reach a 0) (get_or back a 0)))
    (λ b l.
    bit-and (get_or reach a 0) (get_or back a 0) b
    ∙ ap (λ t. bit_in reach a b && t) (ap (λ (z : List ℕ). bit_in z a b) e ∙ turned_bit reach a b h l))

pub loop-a-init : goal.loop-a-init
loop-a-init c = (omega arith, refl, sets-none _ _)

pub loop-a-preserved : goal.loop-a-preserved
loop-a-preserved c = let reach = c.args.reach in
    let back = c.turned-back in (
      omega arith,
      length-set c.loop-a.rows c.loop-a.a _ ∙ c.loop-a.invariant.1,
      sets_more (row_in reach) c.loop-a.a _ c.loop-a.rows _ (stored reach back.result c.loop-a.a (omega arith) back.ensures)
          c.loop-a.invariant.2,
    )

pub returns : goal.returns
unfolding two_way_rows
returns c = let e : c.loop-a.a ≡ 32 = omega arith in
    (rw e at c.loop-a.invariant.2) ∙ sets-all _ _ (length-list _ 32)
