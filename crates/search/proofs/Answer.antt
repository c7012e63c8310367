-- What the search's call asks of an accepted record: its sizes. Assumes nothing.
use mathlib.Core.Path.{◌≡◌}
use Prim.Native.Nat.{◌≤◌}
use Rattle.std.specs.Prelude.{Ok}
use Rattle.site.specs.Record.{fault_of, positions}
use Rattle.site.specs.declared.Site.{Site}
use Rattle.site.proofs.Faults.{fine-sized, few-positions}

pub accepted_sizes : (s : Site) → fault_of s ≡ Ok tt → (s.cells ≤ 32) × (positions s ≤ 2048)
accepted_sizes s fine = let z = fine-sized s fine in (z.cells_most, few-positions z)
