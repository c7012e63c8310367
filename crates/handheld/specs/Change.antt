-- What a change of one load answers, and what it leaves of the record and of the table, for any site and any table.
-- W14: "a load edit alters that record where it stands, then replans from that cell on."
use Rattle.std.specs.Prelude.{Bool, List, ℕ, ◌-◌, ltb, length, Result, Ok, Err}
use Rattle.laws.specs.Choice.{pick}
use Rattle.theory.specs.Plan.{is_plan}
use Rattle.site.specs.Record.{size}
use Rattle.site.specs.Edit.{load_edit_fault, with_load}
use Rattle.site.specs.Reach.{net_of}
use Rattle.site.specs.declared.Site.{Site}
use Rattle.planner.specs.Plan.{plan_answer, plan_table}
use Rattle.site.specs.declared.Fault.{Fault}
use Rattle.planner.specs.declared.PlanError.{PlanError}
use Rattle.planner.specs.declared.PlanError.TheVariants.{TableShort, NoRoom, Record}
use Rattle.handheld.specs.declared.Changed.{Changed}
use Rattle.handheld.specs.declared.ChangeError.{ChangeError}
use Rattle.handheld.specs.declared.ChangeError.TheVariants as Change

-- "The table must first be the greedy plan of the unedited site."
abbrev pub table_is_plan : Site → List ℕ → Bool
table_is_plan s t = is_plan (net_of s) t

-- why the planner refuses, and its answer, given by this call
abbrev pub error_of : PlanError → ChangeError
error_of TableShort = Change.TableShort
error_of (NoRoom cell short) = Change.NoRoom cell short
error_of (Record f) = Change.Record f

abbrev pub change_of : Result Unit PlanError → Result Unit ChangeError
change_of (Ok u) = Ok tt
change_of (Err e) = Err (error_of e)

-- what comes of a fault, and else of none
abbrev pub by_fault : {A : Type 0} → (Fault → A) → Result Unit Fault → A → A
by_fault refused (Ok u) done = done
by_fault refused (Err f) done = refused f

-- "Refusals: record faults, 2 for the edit, 4, then 26, table is not the plan": which of four comes, by the first that applies
unfoldable pub in_order : {A : Type 0} → Site → ℕ → List ℕ → (Fault → A) → A → A → A → A
in_order s cell t refused short other done =
    by_fault refused (load_edit_fault s cell) (pick (ltb (length t) (size s)) short (pick (table_is_plan s t) done other))

-- the site with the load of the cell of that number changed, its fresh plan, and what is answered and left.
-- "Afterwards record and table equal a fresh plan of the edited site"; 26 is "changing nothing", as every refusal before it; "5 keeps the edit and leaves
-- the site's part idle, lower rows included", as the planner's refusal 5 does.
module _ (s : Site) (cell load : ℕ) (t : List ℕ) where
  abbrev pub change_answer : Result Unit ChangeError
  change_answer =
      in_order s cell t (λ f. Err (Change.Record f)) (Err Change.TableShort) (Err Change.NotPlan) (change_of (plan_answer (with_load s (cell - 1) load) t))

  abbrev pub change_site : Site
  change_site = in_order s cell t (λ f. s) s s (with_load s (cell - 1) load)

  abbrev pub change_table : List ℕ
  change_table = in_order s cell t (λ f. t) t t (plan_table (with_load s (cell - 1) load) t)

  abbrev pub changed_of : Changed
  changed_of = record { site = change_site; answer = change_answer }
