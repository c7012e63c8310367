-- `linefaults::fault_from` meets its contract: what is left of the line, looked at from here on, gives the answer. Assumes nothing.
use Rattle.std.specs.Prelude.{◌≡◌, ◌≤◌, ◌+◌, drop}
use Rattle.linefaults.specs.Fault.{first_field, fault_from}
use Rattle.linefaults.proofs.fault_from.Given as goal

abbrev pub invariant-loop-i : goal.invariant-loop-i
invariant-loop-i l = (l.f.column ≤ l.i + 1) × (fault_from l.fields (l.i + 1) l.f (drop l.i l.rest) ≡ fault_from l.fields 1 first_field (drop l.from l.s))
