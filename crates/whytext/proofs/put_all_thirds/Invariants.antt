-- `whytext::put_all_thirds` meets its contract: before first cell a, the lines of the cells below it are laid. Assumes nothing.
use Prim.Native.Nat.{◌+◌}
use mathlib.Core.Path.{◌≡◌}
use lib.ListN.{length}
use lib.Seq.{sets}
use Rattle.say_rule.specs.Said.{firsts_said}
use Rattle.whytext.proofs.put_all_thirds.Given as goal

abbrev pub invariant-loop-a : goal.invariant-loop-a
invariant-loop-a l = (l.out ≡ sets l.initial.out l.at (firsts_said l.site l.a)) ×
    (l.next ≡ l.at + length (firsts_said l.site l.a))
