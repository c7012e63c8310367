-- `say_sheets::first_change` meets its contract: a search, whose invariant says that the search that is left gives the answer. Assumes nothing.
use mathlib.Core.Path.{◌≡◌, refl, sym, ◌∙◌}
use native.Mathlib.Omega.{arith}
use Rattle.laws.proofs.Search.{found, missed, ended}
use Rattle.say_sheets.specs.Said.{first_change}
use Rattle.say_sheets.proofs.first_change.Goals as goal

pub loop-done-init : goal.loop-done-init
loop-done-init c = refl

pub returns-then-is_made : goal.returns-then-is_made
unfolding first_change
returns-then-is_made c = found _ c.loop-done.done 8 c.loop-done.invariant (omega arith) (sym c.is_made.ensures ∙ c.if-is_made.true)

pub loop-done-preserved : goal.loop-done-preserved
loop-done-preserved c = missed _ c.loop-done.done 8 c.loop-done.invariant (omega arith) (sym c.is_made.ensures ∙ c.if-is_made.false)

pub returns : goal.returns
unfolding first_change
returns c = let all : 8 ≡ c.loop-done.done = omega arith in
    all ∙ ended _ c.loop-done.done 8 c.loop-done.invariant (omega arith)
