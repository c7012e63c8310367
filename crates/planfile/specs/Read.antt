-- The plan file as it is read. "A plan file is kinds 1, 4." Its reader's refusals stand in one list, in the order of document 01;
-- the answer is the first that applies.
use Rattle.std.specs.Prelude.{ℕ, ◌+◌, List, [], ◌∷◌, ◌++◌, length, drop, ltb, Result, Ok, Err}
use Rattle.laws.specs.Choice.{pick}
use Rattle.records.specs.Layout.{body_at, record_end}
use Rattle.records.specs.Reasons.{Reason, reason, first_reason, is_done, record_reasons, end_reason}
use Rattle.records.specs.Head.{cells_of_head, slots_of_head, channels_of_head, entries_of_head, after_head, head_reasons}
use Rattle.records.specs.declared.Length.TheVariants.{Exact}
use Rattle.records.specs.declared.Refusal.{Refusal}
use Rattle.records.specs.Bits.{bytes_for, left_over}
use Rattle.planbits.specs.Bits.{bits_from}
use Rattle.planfile.specs.declared.PlanRead.{PlanRead}

-- where kind 4 is due, its body, and where it ends
abbrev pub plan_at : List ℕ → ℕ
plan_at s = after_head s

abbrev pub body_in : List ℕ → List ℕ
body_in s = body_at s (plan_at s)

abbrev pub end_in : List ℕ → ℕ
end_in s = record_end s (plan_at s)

-- kind 4, "plan": "one bit per cell and position", length "2 + IN/8 rounded up"; "plan 14"
abbrev pub body_reasons : List ℕ → List Reason
body_reasons s =
    record_reasons s (plan_at s) 4 (Exact (2 + bytes_for (entries_of_head s)))
    ++ (reason (left_over (body_in s) (entries_of_head s)) 14 (plan_at s) ∷ [])

-- "record by record .. Then 12, then 4." "4 from the plan reader: 0"
abbrev pub plan_reasons : List ℕ → List ℕ → List Reason
plan_reasons s table =
    head_reasons s
    ++ (body_reasons s
    ++ (end_reason s (end_in s)
    ∷ reason (ltb (length table) (entries_of_head s)) 4 0
    ∷ []))

unfoldable pub plan_read_answer : List ℕ → List ℕ → Result Unit Refusal
plan_read_answer s table = first_reason (plan_reasons s table)

-- "A plan read gives I, T and F; refused, three zeros."
abbrev pub refused_plan : Result Unit Refusal → PlanRead
refused_plan answer = record { cells = 0; slots = 0; channels = 0; answer = answer }

unfoldable pub plan_read_of : ℕ → ℕ → ℕ → Result Unit Refusal → PlanRead
plan_read_of cells slots channels (Ok u) = record { cells = cells; slots = slots; channels = channels; answer = Ok tt }
plan_read_of cells slots channels (Err r) = refused_plan (Err r)

unfoldable pub read_plan : List ℕ → List ℕ → PlanRead
read_plan s table = plan_read_of (cells_of_head s) (slots_of_head s) (channels_of_head s) (plan_read_answer s table)

-- the table afterwards: the bits, and "Table bytes past IN .. are never written"; refused, as it was
unfoldable pub plan_table_read : List ℕ → List ℕ → List ℕ
plan_table_read s table =
    pick (is_done (plan_read_answer s table)) (bits_from (body_in s) 0 (entries_of_head s) ++ drop (entries_of_head s) table) table
