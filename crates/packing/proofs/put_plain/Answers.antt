-- `packing::put_plain` meets its contract: before block k, two words for each block are stored, and those from there on are still the first ones.
-- Assumes nothing.
use mathlib.Core.Path.{◌≡◌, refl, ap, ◌∙◌}
use Prim.Native.Nat.{ℕ, ◌+◌, ◌*◌, ◌-◌, ◌≤◌}
use native.Mathlib.Omega.{arith}
use lib.ListN.{get_or, length-set}
use Rattle.laws.proofs.Stores.{sets-none, sets-beyond, sets-two}
use Rattle.packing.specs.Packed.{plain_word}
use Rattle.packing.proofs.Packed.{plain-low, plain-high}
use Rattle.packing.proofs.put_plain.Goals as goal

pub loop-k-init : goal.loop-k-init
loop-k-init c = (omega arith, refl, sets-none _ _)

pub loop-k-preserved : goal.loop-k-preserved
loop-k-preserved c =
    let still : (j : ℕ) → 2 * c.loop-k.k ≤ j → get_or c.loop-k.set j 0 ≡ get_or c.args.set.now j 0 = λ j h. let s = c.args.set.now in
    ap (λ l. get_or l j 0) c.loop-k.invariant.2 ∙ sets-beyond (plain_word s) (2 * c.loop-k.k) s j h in
    let l = c.loop-k in
    let s = c.args.set.now in
    let x = still (2 * l.k) (omega arith) in
    let y = still (2 * l.k + 1) (omega arith) in (
      omega arith,
      simp length-set l.invariant.1,
      sets-two (plain_word s) l.k _ _ l.set s (c.first_plain.ensures ∙ plain-low l.k s _ _ x y)
          (c.second_plain.ensures ∙ plain-high l.k s _ _ x y) l.invariant.2,
    )

pub returns : goal.returns
returns c = let e : c.loop-k.k ≡ c.args.m = omega arith in
    rw e at c.loop-k.invariant.2
