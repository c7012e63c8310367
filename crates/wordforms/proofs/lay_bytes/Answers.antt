-- `wordforms::lay_bytes` meets its contract: before word k, that many bytes are stored. Assumes nothing.
use mathlib.Core.Path.{◌≡◌, refl, ap, ◌∙◌}
use Prim.Native.Nat.{ℕ, ◌/◌, ◌%◌, ◌^◌}
use native.Mathlib.Omega.{arith}
use lib.ListN.{length, get_or, length-set}
use lib.Seq.{sets}
use Rattle.laws.specs.Part.{list_of}
use Rattle.laws.proofs.Stores.{sets-none, sets_more, sets-all, length-list}
use Rattle.wordforms.proofs.lay_bytes.Goals as goal

pub loop-k-init : goal.loop-k-init
loop-k-init c = (omega arith, refl, refl, sets-none _ _)

pub loop-k-preserved : goal.loop-k-preserved
loop-k-preserved c = let a = c.args in
    let l = c.loop-k in (
      omega arith,
      refl,
      length-set l.row l.k _ ∙ l.invariant.2,
      sets_more (λ k. get_or a.words.now k 0 / 2 ^ a.i % 256) l.k _ l.row a.row.now c.byte_of.ensures l.invariant.3,
    )

pub returns : goal.returns
returns c = let a = c.args in
    let l = c.loop-k in
    let all : l.k ≡ length a.row.now = omega (arith, c.loop-k-test.false, l.invariant.0, l.invariant.1) in
    let f : ℕ → ℕ = λ k. get_or a.words.now k 0 / 2 ^ a.i % 256 in
    l.invariant.3 ∙ ap (λ (m : ℕ). sets a.row.now 0 (list_of f m)) all ∙ sets-all (list_of f (length a.row.now)) a.row.now
    (length-list f (length a.row.now))
