-- `linefaults::line_start` meets its contract: what is left to pass, from here on, gives the whole. Assumes nothing.
use Rattle.std.specs.Prelude.{◌≡◌, drop}
use Rattle.linefaults.specs.Fault.{after_lines}
use Rattle.linefaults.proofs.line_start.Given as goal

abbrev pub invariant-loop-i : goal.invariant-loop-i
invariant-loop-i l = after_lines l.left (drop l.i l.s) ≡ after_lines l.ends l.s
