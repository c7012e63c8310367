-- `reachpairs::no_rows` meets its contract: before row a, the rows below it are 0. Assumes nothing.
use Prim.Native.Nat.{ℕ}
use mathlib.Core.Path.{◌≡◌, refl, sym, ap, ◌∙◌}
use native.Mathlib.Omega.{arith}
use lib.Seq.{sets}
use Rattle.laws.specs.Part.{list_of}
use Rattle.laws.proofs.Stores.{sets-none, sets_more, sets-all, sets-long, length-list, list-zeros}
use Rattle.reachpairs.proofs.no_rows.Goals as goal

pub loop-a-init : goal.loop-a-init
loop-a-init c = (omega arith, sets-none _ _)

pub bounds-reach-a : goal.bounds-reach-a
bounds-reach-a c = omega (arith, sets-long (λ k. 0) _ _ _ c.loop-a.invariant.1, c.requires)

pub loop-a-smaller : goal.loop-a-smaller
loop-a-smaller c = omega arith

pub loop-a-preserved : goal.loop-a-preserved
loop-a-preserved c = let l = c.loop-a in
    (omega arith, sets_more (λ k. 0) l.a 0 l.reach _ refl l.invariant.1)

pub returns : goal.returns
returns c = let l = c.loop-a in
    let rows = c.args.reach.now in
    let e : l.a ≡ 32 = omega arith in
    l.invariant.1
    ∙ ap (λ (n : ℕ). sets rows 0 (list_of (λ k. 0) n)) e
    ∙ sets-all (list_of (λ k. 0) 32) rows (length-list (λ k. 0) 32 ∙ sym c.requires)
    ∙ list-zeros 32
