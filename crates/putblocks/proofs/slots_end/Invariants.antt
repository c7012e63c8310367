-- `putblocks::slots_end` meets its contract: the search from here on is the search from the slot after t on. Assumes nothing.
use mathlib.Core.Path.{◌≡◌}
use mathlib.Core.Bool.{not}
use Prim.Native.Nat.{ℕ}
use lib.Dec.{eqb}
use Rattle.laws.specs.Search.{first}
use Rattle.putblocks.specs.Canon.{slot_word, slots_end}
use Rattle.putblocks.proofs.slots_end.Given as goal

abbrev pub invariant-loop-u : goal.invariant-loop-u
invariant-loop-u l = slots_end l.set l.slots l.channels l.t ≡ first
    (λ (v : ℕ). not (eqb (slot_word l.set l.channels v) (slot_word l.set l.channels l.t))) l.u l.slots
