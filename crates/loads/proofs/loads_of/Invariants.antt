-- `loads::loads_of` meets its contract: when the loop stands at cell j of the word, the loads of the cells below j are summed,
-- since those passed over add nothing.
-- Assumes nothing.
use Prim.Native.Nat.{◌*◌, ◌≤◌, ◌<◌}
use mathlib.Core.Bool.{true}
use mathlib.Core.Path.{◌≡◌}
use Rattle.laws.specs.Bits.{bit_at}
use Rattle.loads.specs.Loads.{loads_below}
use Rattle.loads.proofs.loads_of.Given as goal

abbrev pub invariant-loop-member : goal.invariant-loop-member
invariant-loop-member l = (l.sum ≡ loads_below l.loads l.word l.j) × (l.sum ≤ 65535 * l._member) × (l.j ≤ 32) × (l.j < 32 → bit_at l.word l.j ≡ true)
