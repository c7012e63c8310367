-- `words::add_row` meets its contract: before position p, that many joined words are stored, and the word at p is still the first one.
-- Assumes nothing.
use mathlib.Core.Path.{◌≡◌, refl, ap, ap₂, ◌∙◌}
use native.Mathlib.Nat.{le_refl}
use native.Mathlib.Omega.{arith}
use lib.Bits.{bit_or}
use lib.ListN.{get_or, length-set}
use Rattle.laws.proofs.Stores.{sets-none, sets_more, sets-beyond}
use Rattle.words.specs.Words.{joined_at}
use Rattle.words.proofs.add_row.Goals as goal

pub loop-p-init : goal.loop-p-init
loop-p-init c = (omega arith, refl, sets-none _ _)

pub loop-p-preserved : goal.loop-p-preserved
loop-p-preserved c = let p = c.loop-p in
    let a = c.args in
    let same : get_or p.words p.p 0 ≡ get_or a.words.now p.p 0
    = ap (λ l. get_or l p.p 0) p.invariant.2 ∙ sets-beyond (joined_at a.words.now a.table.now a.from a.bit) p.p a.words.now p.p
    (le_refl p.p) in (
      omega arith,
      length-set p.words p.p _ ∙ p.invariant.1,
      sets_more (joined_at a.words.now a.table.now a.from a.bit) p.p _ p.words a.words.now
          (ap₂ bit_or same c.weight.ensures) p.invariant.2,
    )
