-- The bounds of an accepted record that the planner asks; and its answer and its table where the table that is lent is long enough. Assumes nothing.
use mathlib.Core.Path.{◌≡◌}
use mathlib.Core.List.{List, ◌++◌}
use Prim.Native.Nat.{ℕ, ◌*◌, ◌≤◌}
use lib.ListN.{length, drop}
use borrow.Author.Tests.{le-ltb}
use Rattle.theory.specs.Greedy.{greedy}
use Rattle.site.specs.Record.{fault_of, size}
use Rattle.site.specs.Reach.{net_of}
use Rattle.site.specs.declared.Site.{Site}
use Rattle.site.proofs.Faults.{fine-sized, few-positions, few_bytes}
use Rattle.planner.proofs.Before.{either_way}
use Rattle.std.specs.Prelude.{Ok}
use Rattle.planner.specs.Plan.{answer_of, table_of, plan_answer, plan_table}

-- the numbers of an accepted record, multiplied as the code does
pub few-numbers : (s : Site) → fault_of s ≡ Ok tt
    → (s.cells ≤ 32) × (s.channels ≤ 16) × (s.slots * s.channels ≤ 2048) × (s.cells * (s.slots * s.channels) ≤ 65536)
few-numbers s fine =
    let z = fine-sized s fine in
    (z.cells_most, z.channels_most, few-positions z, few_bytes z)

pub ruleset accepted_record = (few-numbers, either_way)

module _ (s : Site) (t : List ℕ) where
  pub run-answer : fault_of s ≡ Ok tt → size s ≤ length t → plan_answer s t ≡ answer_of (greedy (net_of s))
  unfolding plan_answer
  run-answer e h = rw (e, le-ltb (length t) (size s) h)

  pub run-table : fault_of s ≡ Ok tt → size s ≤ length t → plan_table s t ≡ table_of (size s) (greedy (net_of s)) ++ drop (size s) t
  unfolding plan_table
  run-table e h = rw (e, le-ltb (length t) (size s) h)
