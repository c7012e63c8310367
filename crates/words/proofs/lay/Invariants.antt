-- `words::lay` meets its contract: before the d-th store, d words are laid down. Assumes nothing.
use mathlib.Core.Path.{◌≡◌}
use Prim.Native.Nat.{◌-◌, ◌≤◌}
use lib.ListN.{length}
use lib.Seq.{sets}
use Rattle.laws.specs.Part.{list_of}
use Rattle.words.proofs.lay.Given as goal

abbrev pub invariant-loop-d : goal.invariant-loop-d
invariant-loop-d l = (l.d ≤ l.m) × (length l.words ≡ length l.initial.words) × (l.words ≡ sets l.initial.words l.from (list_of (λ _. l.word) l.d))

abbrev pub decreases-loop-d : goal.decreases-loop-d
decreases-loop-d l = l.m - l.d
