-- `sheet::put_lines` meets its contract: what is left of the lines, stored from here on, gives the whole. Assumes nothing.
use Prim.Native.Nat.{◌-◌}
use Rattle.text.proofs.Writing.{Writing}
use Rattle.sheet.specs.Sheet.{lines_from}
use Rattle.sheet.proofs.WriteLaws.{plain}
use Rattle.sheet.proofs.put_lines.Given as goal

abbrev pub invariant-loop-k : goal.invariant-loop-k
invariant-loop-k l = Writing l.initial.out l.at (lines_from (plain l.n l.loads l.reach) 0 l.n) l.out l.p
    (lines_from (plain l.n l.loads l.reach) l.k (l.n - l.k))
