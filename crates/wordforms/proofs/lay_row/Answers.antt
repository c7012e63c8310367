-- `wordforms::lay_row` meets its contract: before word k, that many bytes are stored. Assumes nothing.
use mathlib.Core.Path.{◌≡◌, refl, ap, ◌∙◌}
use Prim.Native.Nat.{ℕ}
use native.Mathlib.Omega.{arith}
use lib.ListN.{length, length-set}
use lib.Seq.{sets}
use Rattle.laws.specs.Part.{list_of}
use Rattle.laws.specs.Sum.{bit}
use Rattle.laws.proofs.Stores.{sets-none, sets_more, sets-all, length-list}
use Rattle.wordforms.specs.Words.{sends_at}
use Rattle.wordforms.proofs.lay_row.Goals as goal

pub loop-k-init : goal.loop-k-init
loop-k-init c = (omega arith, refl, refl, sets-none _ _)

pub loop-k-preserved : goal.loop-k-preserved
loop-k-preserved c = let a = c.args in
    let l = c.loop-k in (
      omega arith,
      refl,
      length-set l.row l.k _ ∙ l.invariant.2,
      sets_more (λ k. bit (sends_at a.words.now a.i k)) l.k _ l.row a.row.now c.bit_of.ensures l.invariant.3,
    )

pub returns : goal.returns
returns c = let a = c.args in
    let l = c.loop-k in
    let all : l.k ≡ length a.row.now = omega (arith, c.loop-k-test.false, l.invariant.0, l.invariant.1) in
    let f : ℕ → ℕ = λ k. bit (sends_at a.words.now a.i k) in
    l.invariant.3 ∙ ap (λ (m : ℕ). sets a.row.now 0 (list_of f m)) all ∙ sets-all (list_of f (length a.row.now)) a.row.now
    (length-list f (length a.row.now))
