-- `changelist::list_change` meets its contract: a change is one store and one entry. Assumes nothing.
use mathlib.Core.Path.{◌≡◌}
use mathlib.Core.Bool.{not}
use Prim.Native.Nat.{◌+◌, ◌-◌}
use native.Mathlib.Omega.{arith}
use Rattle.mending.specs.Changes.{follow}
use Rattle.standing.proofs.Turns.{bool-bit}
use Rattle.changelist.proofs.list_change.Goals as goal

pub returns : goal.returns
unfolding follow
returns c = let a = c.args in
    let m : a.i + 1 - 1 ≡ a.i = omega arith in record { table = rw (m, bool-bit a.is); list = rw (← bool-bit (not a.is), ← bool-bit a.is) c.note.ensures }
