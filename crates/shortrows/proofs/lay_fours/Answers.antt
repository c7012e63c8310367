-- `shortrows::lay_fours` meets its contract: before four number q, the marks of those before it are stored. Assumes nothing.
use mathlib.Core.Path.{◌≡◌, refl, ap, sym, ◌∙◌}
use Prim.Native.Nat.{ℕ, ◌+◌, ◌*◌}
use native.Mathlib.Omega.{arith}
use lib.Seq.{sets}
use Rattle.laws.specs.Part.{list_of}
use Rattle.laws.proofs.Stores.{sets-none, sets-long, sets-on}
use Rattle.shortrows.specs.Short.{mark_in}
use Rattle.shortrows.proofs.Bytes.{four-digits}
use Rattle.shortrows.proofs.lay_fours.Goals as goal

pub loop-q-init : goal.loop-q-init
loop-q-init c = let a = c.args in
    (omega arith, sets-none (mark_in a.taken) a.row.now)

pub store_four-requires : goal.store_four-requires
store_four-requires c = let a = c.args in
    omega (arith, sets-long (mark_in a.taken) (4 * c.loop-q.q) a.row.now c.loop-q.row c.loop-q.invariant.1, c.requires.0)

pub loop-q-preserved : goal.loop-q-preserved
loop-q-preserved c = let a = c.args in
    let e : 4 * (c.loop-q.q + 1) ≡ 4 * c.loop-q.q + 4 = omega arith in (
      omega arith,
      c.store_four.ensures
          ∙ ap (sets c.loop-q.row (4 * c.loop-q.q))
          (four-digits a.taken (4 * c.loop-q.q) c.four_bytes.result c.four_bytes.ensures)
          ∙ sets-on (mark_in a.taken) (λ k. mark_in a.taken (4 * c.loop-q.q + k)) (4 * c.loop-q.q) 4 c.loop-q.row a.row.now
          c.loop-q.invariant.1 (λ d h. refl)
          ∙ ap (λ (k : ℕ). sets a.row.now 0 (list_of (mark_in a.taken) k)) (sym e),
    )

pub shape_of-row : goal.shape_of-row
shape_of-row c = let a = c.args in
    sets-long (mark_in a.taken) (4 * c.loop-q.q) a.row.now c.loop-q.row c.loop-q.invariant.1

pub returns : goal.returns
returns c = let e : c.loop-q.q ≡ c.args.m = omega arith in
    rw e at c.loop-q.invariant.1
