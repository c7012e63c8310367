-- `sheet::sheet_len` meets its contract: the lines that are left are what is missing. Assumes nothing.
use Prim.Native.Nat.{◌+◌, ◌-◌, ◌*◌, ◌≤◌}
use mathlib.Core.Path.{◌≡◌}
use mathlib.Core.List.{[]}
use lib.ListN.{length}
use Rattle.sheet.specs.Sheet.{lines_from, sheet_bytes}
use Rattle.sheet.proofs.WriteLaws.{plain}
use Rattle.sheet.proofs.sheet_len.Given as goal

abbrev pub invariant-loop-k : goal.invariant-loop-k
invariant-loop-k l = (l.need + length (lines_from (plain l.n l.loads []) l.k (l.n - l.k)) ≡ length (sheet_bytes (plain l.n l.loads []))) ×
    (l.need ≤ 300 + 100 * l.k)
