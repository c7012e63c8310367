-- The site with another rule, or with other positions blocked: "`blocked LIST`, `rule R`, .. each with document 01's refusals".
use Rattle.std.specs.Prelude.{ℕ, List, ltb, Result, Ok, Err}
use Rattle.std.specs.Result.{result_and}
use Rattle.laws.specs.Choice.{pick}
use Rattle.positions.specs.Blocked.{most_positions, first_past}
use Rattle.site.specs.Record.{site_of, positions, rule_ok, fault_of}
use Rattle.site.specs.Edit.{answered}
use Rattle.site.specs.declared.Site.{Site}
use Rattle.site.specs.declared.Edited.{Edited}
use Rattle.site.specs.declared.Fault.{Fault}
use Rattle.site.specs.declared.Fault.TheVariants.{Rule, Blocked}

-- the record's faults, then 24, "rule not 1 or 2"
unfoldable pub rule_edit_fault : Site → ℕ → Result Unit Fault
rule_edit_fault s rule = result_and (fault_of s) (pick (rule_ok rule) (Ok tt) (Err Rule))

abbrev pub with_rule : Site → ℕ → Site
with_rule s rule = site_of s.cells s.slots s.channels s.loads s.reach s.blocked rule

-- "`rule R`"
unfoldable pub set_rule_of : Site → ℕ → Edited
set_rule_of s rule = answered (rule_edit_fault s rule) (with_rule s rule) s

-- the record's faults, then 20, "blocked bit at or past FT (the lowest)"
unfoldable pub blocked_edit_fault : Site → List ℕ → Result Unit Fault
blocked_edit_fault s set = let past = first_past set (positions s) in
    result_and (fault_of s) (pick (ltb past most_positions) (Err (Blocked past)) (Ok tt))

abbrev pub with_blocked : Site → List ℕ → Site
with_blocked s set = site_of s.cells s.slots s.channels s.loads s.reach set s.rule

-- "`blocked LIST`": it takes the place of what was blocked
unfoldable pub set_blocked_of : Site → List ℕ → Edited
set_blocked_of s set = answered (blocked_edit_fault s set) (with_blocked s set) s
