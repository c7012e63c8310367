-- `reachpairs::put_row` meets its contract. The invariant: to store the pairs of the bits that are left from k on makes the answer.
-- Each turn clears the lowest bit that is left, so the loop ends. Assumes nothing.
use Prim.Native.Nat.{ℕ, ◌-◌, ◌*◌}
use mathlib.Core.Path.{◌≡◌, refl, sym, ap, ◌∙◌}
use mathlib.Core.List.{[]}
use native.Mathlib.Omega.{arith}
use lib.Bits.{and_le_r}
use lib.ListN.{length}
use lib.Seq.{sets}
use Rattle.reachpairs.specs.Loop.{row_from}
use Rattle.reachpairs.proofs.LowestBit.{trailing_lt, row-empty, lowest-length, lowest-put}
use Rattle.reachpairs.proofs.put_row.Goals as goal

pub loop-left-init : goal.loop-left-init
loop-left-init c = record { kept = refl; fits = omega arith; ends = refl; makes = refl }

pub put_pair-k-requires : goal.put_pair-k-requires
put_pair-k-requires c = let l = c.loop-left in
    let a = c.args in
    let some = c.loop-left-test.true in (
      omega arith,
      trailing_lt 32 l.left l.invariant.fits some,
      omega
          (arith, l.invariant.ends, l.invariant.kept, lowest-length l.left a.a l.invariant.fits some),
    )

pub overflow_sub-left : goal.overflow_sub-left
overflow_sub-left c = omega arith

pub loop-left-smaller : goal.loop-left-smaller
loop-left-smaller c = let l = c.loop-left in
    omega (arith, and_le_r l.left (l.left - 1))

pub loop-left-preserved : goal.loop-left-preserved
loop-left-preserved c = let l = c.loop-left in
    let a = c.args in
    let some = c.loop-left-test.true in
    record {
      kept = c.put_pair-k.auto.out ∙ l.invariant.kept;
      fits = omega (arith, and_le_r l.left (l.left - 1), l.invariant.fits);
      ends = omega (arith, c.put_pair-k.ensures.value, l.invariant.ends, lowest-length l.left a.a l.invariant.fits some);
      makes =
          rw (c.put_pair-k.ensures.out_after, c.put_pair-k.ensures.value)
          (lowest-put l.left a.a l.invariant.fits some l.out l.k ∙ l.invariant.makes);
    }

pub shape_of-out : goal.shape_of-out
shape_of-out c = c.loop-left.invariant.kept

pub returns : goal.returns
returns c = let l = c.loop-left in
    let a = c.args in
    let e : row_from l.left (32 * a.a) 32 ≡ [] = ap (λ (x : ℕ). row_from x (32 * a.a) 32) c.loop-left-test.false
    ∙ row-empty a.a in record { value = omega (arith, ap length e); out_after = sym (ap (sets l.out l.k) e) ∙ l.invariant.makes }
