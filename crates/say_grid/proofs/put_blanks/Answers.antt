-- `say_grid::put_blanks` meets its contract: before a blank, those before it are put. Assumes nothing.
use Prim.Native.Nat.{ℕ}
use mathlib.Core.List.{List, [], ◌∷◌}
use Rattle.faults.specs.Faults.{in_turn}
use Rattle.faults.proofs.InTurn.{turn_more}
use Rattle.phrases.proofs.Put.{put_both, put-none}
use Rattle.say_grid.specs.Grid.{blanks}
use Rattle.say_grid.proofs.Steps.{blank-put}
use Rattle.say_grid.proofs.put_blanks.Goals as goal

abbrev blank : ℕ → List ℕ
blank k = 32 ∷ []

pub loop-init : goal.loop-init
unfolding in_turn
loop-init c = put-none _ _ _

pub loop-preserved : goal.loop-preserved
loop-preserved c = let k = c.loop.counter in
    rw (turn_more blank k) (put_both (blanks k) _ c.loop.invariant (blank-put c.put-next.ensures))
