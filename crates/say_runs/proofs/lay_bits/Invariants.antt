-- `say_runs::lay_bits` meets its contract: before bit f, that many are stored. Assumes nothing.
use mathlib.Core.Path.{◌≡◌}
use Prim.Native.Nat.{ℕ, ◌/◌, ◌%◌, ◌^◌, ◌≤◌}
use lib.ListN.{length}
use lib.Seq.{sets}
use Rattle.laws.specs.Part.{list_of}
use Rattle.say_runs.proofs.lay_bits.Given as goal

abbrev pub bit_from : ℕ → ℕ → ℕ
bit_from word f = word / 2 ^ f % 2

abbrev pub invariant-loop-f : goal.invariant-loop-f
invariant-loop-f l = (l.f ≤ l.f-end) × (l.f-end ≡ length l.initial.bits) × (length l.bits ≡ length l.initial.bits) ×
    (l.bits ≡ sets l.initial.bits 0 (list_of (bit_from l.word) l.f))
