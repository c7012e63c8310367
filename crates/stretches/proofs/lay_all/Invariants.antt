-- `stretches::lay_all` meets its contract: before position k, the words below k are laid down, and what is left and who is in need is known. Assumes nothing.
use mathlib.Core.Path.{◌≡◌}
use Prim.Native.Nat.{◌-◌}
use Rattle.laws.specs.Bits.{word_of}
use Rattle.stretches.specs.Stretches.{in_need}
use Rattle.stretches.proofs.Laid.{Laid}
use Rattle.site.specs.Reach.{is_open, net_by}
use Rattle.stretches.proofs.lay_all.Given as goal

abbrev pub invariant-loop-k : goal.invariant-loop-k
invariant-loop-k l = Laid (net_by l.cells l.n l.initial.left l.clash (is_open l.blocked)) l.initial.words l.initial.left l.k l.words l.left ×
    (l.need ≡ word_of (in_need l.left) l.cells)

abbrev pub decreases-loop-k : goal.decreases-loop-k
decreases-loop-k l = l.n - l.k
