-- `checker::hold_row` meets its contract: before position p, that many marks are stored, and the mark at p is still the first one. Assumes nothing.
use mathlib.Core.Path.{◌≡◌, refl, ap, ◌∙◌}
use Prim.Native.Nat.{ℕ, ◌+◌}
use native.Mathlib.Nat.{le_refl}
use native.Mathlib.Omega.{arith}
use lib.ListN.{get_or, length-set}
use Rattle.laws.specs.Choice.{pick}
use Rattle.laws.proofs.Stores.{sets-none, sets_more, sets-beyond}
use Rattle.theory.specs.Greedy.{sends}
use Rattle.checker.specs.Marks.{held_at}
use Rattle.checker.proofs.hold_row.Goals as goal

pub loop-p-init : goal.loop-p-init
loop-p-init c = (omega arith, refl, sets-none _ _)

pub loop-p-preserved : goal.loop-p-preserved
loop-p-preserved c = let p = c.loop-p in
    let a = c.args in
    let same : get_or p.marks p.p 0 ≡ get_or a.marks.now p.p 0
    = ap (λ l. get_or l p.p 0) p.invariant.2 ∙ sets-beyond (held_at a.marks.now a.table.now a.from) p.p a.marks.now p.p
    (le_refl p.p) in (
      omega arith,
      length-set p.marks p.p _ ∙ p.invariant.1,
      sets_more (held_at a.marks.now a.table.now a.from) p.p _ p.marks a.marks.now
          (c.seen.ensures ∙ ap (λ (x : ℕ). pick (sends (get_or a.table.now (a.from + p.p) 0)) 1 x) same) p.invariant.2,
    )

pub returns : goal.returns
returns c = let e : c.loop-p.p ≡ c.args.m = omega arith in
    rw e at c.loop-p.invariant.2
