-- "Numbers given back", as the promises speak of them: document 01's number, and the values that come with it in its order.
-- A call's answer is put into these by the definition of its crate: `done_given`, `load_given`, `chain_given`, `least_given`, `heaviest_given`, `plan_given`,
-- `check_given`, `form_given`, `mend_given`, `read_given`, `written_given`, `plan_written_given`, `sheet_given`, `flows_given`, `admit_given`, `search_given`,
-- `find_given`, `over_full_given`.
use Rattle.std.specs.Prelude.{List, [], ◌∷◌, ℕ, ◌+◌}
use Rattle.theory.specs.Greedy.{Outcome, planned, no_room}
use Rattle.site.specs.Given.{Given}

-- 0, "done", with no value: a plan, a valid table, a file that was read, and the good verdicts, "load holds" and "chain yes"
abbrev pub done : Given
done = record { number = 0; values = [] }

-- 0, "done", with "the answer": a verdict that names cells, and the number of bytes that a writer wrote
abbrev pub done_with : List ℕ → Given
done_with vs = record { number = 0; values = vs }

-- a refusal: its number, and what the table puts with it
abbrev pub refused : ℕ → List ℕ → Given
refused n vs = record { number = n; values = vs }

-- what a run of the greedy order comes to: 0; or 5, "planner finds no room", with "cell, fragments short", the cell numbered from 1
abbrev pub run_given : Outcome → Given
run_given (planned t) = done
run_given (no_room c m) = refused 5 ((c + 1) ∷ m ∷ [])
