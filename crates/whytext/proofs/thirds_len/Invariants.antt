-- `whytext::thirds_len` meets its contract: before first cell a, the lines of the cells below it are counted. Assumes nothing.
use Prim.Native.Nat.{◌*◌, ◌≤◌}
use mathlib.Core.Path.{◌≡◌}
use lib.ListN.{length}
use Rattle.say_rule.specs.Said.{firsts_said}
use Rattle.whytext.proofs.thirds_len.Given as goal

abbrev pub invariant-loop-a : goal.invariant-loop-a
invariant-loop-a l = (l.n ≡ length (firsts_said l.site l.a)) × (l.n ≤ 22400 * l.a)
