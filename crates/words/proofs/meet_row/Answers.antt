-- `words::meet_row` meets its contract: before position p, that many words and marks are stored, and those at p are still the first ones.
-- Assumes nothing.
use mathlib.Core.Path.{◌≡◌, refl, ap, ap₂, ◌∙◌}
use mathlib.Core.List.{List}
use Prim.Native.Nat.{ℕ, ◌+◌}
use native.Mathlib.Nat.{le_refl}
use native.Mathlib.Omega.{arith}
use lib.Bits.{bit_and, bit_or}
use lib.ListN.{get_or, length-set}
use lib.Seq.{sets}
use Rattle.laws.specs.Choice.{pick}
use Rattle.laws.specs.Part.{list_of}
use Rattle.laws.proofs.Stores.{sets-none, sets_more, sets-beyond}
use Rattle.theory.specs.Greedy.{sends}
use Rattle.words.specs.Words.{joined_at, marked_at}
use Rattle.words.proofs.meet_row.Goals as goal

-- what is still to be stored is as it was
untouched : (f : ℕ → ℕ) (p : ℕ) (l x : List ℕ) → x ≡ sets l 0 (list_of f p) → get_or x p 0 ≡ get_or l p 0
untouched f p l x e = ap (λ (z : List ℕ). get_or z p 0) e ∙ sets-beyond f p l p (le_refl p)

pub loop-p-init : goal.loop-p-init
loop-p-init c = (omega arith, refl, refl, sets-none _ _, sets-none _ _)

pub loop-p-preserved : goal.loop-p-preserved
loop-p-preserved c = let l = c.loop-p in
    let a = c.args in
    let f : ℕ → ℕ = joined_at a.words.now a.table.now a.from a.bit in
    let g : ℕ → ℕ = marked_at a.marks.now a.words.now a.table.now a.from a.row in
    let word : get_or l.words l.p 0 ≡ get_or a.words.now l.p 0 = untouched f l.p a.words.now l.words l.invariant.3 in
    let mark : get_or l.marks l.p 0 ≡ get_or a.marks.now l.p 0 = untouched g l.p a.marks.now l.marks l.invariant.4 in
    let met = c.weight.ensures ∙ ap (λ x. pick (sends (get_or a.table.now (a.from + l.p) 0)) (bit_and x a.row) 0) word in (
      omega arith,
      length-set l.words l.p _ ∙ l.invariant.1,
      length-set l.marks l.p _ ∙ l.invariant.2,
      sets_more f l.p _ l.words a.words.now (ap₂ bit_or word c.weight-in-loop-p.ensures) l.invariant.3,
      sets_more g l.p _ l.marks a.marks.now (ap₂ bit_or mark met) l.invariant.4,
    )
