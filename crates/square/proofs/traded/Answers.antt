-- `square::traded` meets its contract: two words mixed, and mixed again. Assumes nothing.
use mathlib.Core.Path.{ap, ◌∙◌}
use Prim.Native.Nat.{ℕ, ◌*◌, ◌%◌, ◌^◌}
use Rattle.square.specs.Fours.{mixed_of}
use Rattle.square.proofs.Fours.{trade-word}
use Rattle.square.proofs.traded.Goals as goal

pub returns : goal.returns
returns c = let a = c.args in
    c.mixed-2.ensures
    ∙ ap (λ (z : ℕ). mixed_of a.up z (a.y * 2 ^ a.d % 2 ^ 64)) c.mixed.ensures
    ∙ trade-word a.d a.down a.up a.x a.y
