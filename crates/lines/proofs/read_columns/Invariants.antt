-- `lines::read_columns` meets its contract: the columns so far are eaten, and those that stand from here on are what is left of the count. Assumes nothing.
use Rattle.std.specs.Prelude.{◌≡◌, ◌-◌, drop}
use Rattle.lines.specs.Match.{eaten}
use Rattle.lines.specs.Format.{columns}
use Rattle.lines.specs.Content.{columns_in}
use Rattle.lines.proofs.read_columns.Given as goal

abbrev pub invariant-loop-k : goal.invariant-loop-k
invariant-loop-k l = (l.p ≡ eaten l.s l.at (columns 0 l.k)) × (columns_in (32 - l.k) l.k (drop l.p l.s) ≡ columns_in 32 0 (drop l.at l.s))
