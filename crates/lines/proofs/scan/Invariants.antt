-- `lines::scan` meets its contract: what is left of the input, scanned on from here, gives the number; no digit is taken above 9,999, so nothing wraps.
-- Assumes nothing.
use Rattle.std.specs.Prelude.{◌≡◌, ◌<◌, drop}
use Rattle.lines.specs.Content.{scanned}
use Rattle.lines.proofs.scan.Given as goal

abbrev pub invariant-loop-p : goal.invariant-loop-p
invariant-loop-p l = (l.v < 100000) × (scanned l.v (drop l.p l.s) ≡ scanned 0 (drop l.at l.s))
