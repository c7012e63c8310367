-- `square::stage` meets its contract: before pair i, the first 2 i rows are stored. Assumes nothing.
use mathlib.Core.Path.{◌≡◌, sym, ap, ◌∙◌}
use mathlib.Core.List.{List}
use Prim.Native.Nat.{ℕ, ◌+◌, ◌*◌, ◌/◌, ◌%◌}
use native.Mathlib.Omega.{arith}
use lib.ListN.{length, get_or}
use lib.Seq.{sets, take_all, length-sets}
use Rattle.laws.specs.Part.{list_of}
use Rattle.laws.proofs.Stores.{length-list, take-sets, sets-none, sets-two}
use Rattle.square.specs.Stage.{low_of, high_of, crossed}
use Rattle.square.proofs.stage.Goals as goal

module _ (m mask : ℕ) (l : List ℕ) (i : ℕ) where
  even-row : low_of m mask (get_or l i 0) (get_or l (i + 16) 0) ≡ crossed m mask l (2 * i)
  unfolding crossed
  even-row =
      let e : 2 * i % 2 ≡ 0 = omega arith in
      let d : 2 * i / 2 ≡ i = omega arith in
      rw (e, d)

  odd-row : high_of m mask (get_or l i 0) (get_or l (i + 16) 0) ≡ crossed m mask l (2 * i + 1)
  unfolding crossed
  odd-row =
      let e : (2 * i + 1) % 2 ≡ 1 = omega arith in
      let d : (2 * i + 1) / 2 ≡ i = omega arith in
      rw (e, d)

-- all rows are stored
whole : (f : ℕ → ℕ) (n : ℕ) (l : List ℕ) → length l ≡ n → sets l 0 (list_of f n) ≡ list_of f n
whole f n l e =
    sym (take_all n (sets l 0 (list_of f n)) (omega (arith, length-sets l 0 (list_of f n))))
    ∙ take-sets n (list_of f n) l (length-list f n) (omega arith)

pub loop-i-init : goal.loop-i-init
loop-i-init c = (c.requires.2, omega (arith, c.requires.2), sets-none _ _)

pub loop-i-preserved : goal.loop-i-preserved
loop-i-preserved c = let l = c.loop-i in
    let a = c.args in (
      l.invariant.0,
      omega arith,
      sets-two (crossed a.m a.mask a.from.now) l.i _ _ l.to a.to.now
          (c.low.ensures ∙ even-row a.m a.mask a.from.now l.i)
          (c.high.ensures ∙ odd-row a.m a.mask a.from.now l.i)
          l.invariant.2,
    )

pub returns : goal.returns
returns c = let l = c.loop-i in
    let a = c.args in
    let e : 2 * l.i ≡ 32 = omega arith in
    l.invariant.2 ∙ ap (λ (k : ℕ). sets a.to.now 0 (list_of (crossed a.m a.mask a.from.now) k)) e
    ∙ whole (crossed a.m a.mask a.from.now) 32 a.to.now c.requires.3
