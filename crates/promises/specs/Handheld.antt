-- W14, what the fitter with the handheld may rely on: over the contracts of `change_load`, `set_load` and `plan`, and in the document's numbers.
-- site and table are what is lent when the call begins, site' and table' what they are when it ends, and r what it answers.
use Rattle.std.specs.Prelude.{◌≡◌, ◌↔◌, List, [], ℕ, ◌-◌, ◌*◌, take, Result}
use Rattle.site.specs.Record.{positions, size}
use Rattle.site.specs.Given.{done_given}
use Rattle.site.specs.declared.Site.{Site}
use Rattle.site.specs.declared.Edited.{Edited}
use Rattle.planner.specs.Given.{plan_given}
use Rattle.planner.specs.declared.PlanError.{PlanError}
use Rattle.handheld.specs.Given.{change_given}
use Rattle.handheld.specs.declared.ChangeError.{ChangeError}
use Rattle.contracts.specs.SiteSays.{SiteSetLoad}
use Rattle.contracts.specs.PlannerSays.{Plan}
use Rattle.contracts.specs.HandheldSays.{ChangeLoad}
use Rattle.demanded.specs.Numbers.{done, refused}
use Rattle.demanded.specs.Demands.{LongEnough}
use Rattle.promises.specs.Untouched.{Idle}

-- "The table must first be the greedy plan of the unedited site": the planner, lent it, is done and leaves it as it is
abbrev pub IsThePlan : Site → List ℕ → Type 0
IsThePlan site table = (planned : Result Unit PlanError) (left : List ℕ) → Plan site table planned left → (plan_given planned ≡ done) × (left ≡ table)

-- neither "record faults" nor "2 for the edit": the edit by value is done
abbrev pub EditDone : Edited → Type 0
EditDone edited = done_given edited.answer ≡ done

pub record OneLoadChanges : Type 0 where
  -- "record faults, 2 for the edit, 4, then 26, table is not the plan": exactly where none of the others applies and it is not
  pub not_the_plan : (site site' : Site) (cell load : ℕ) (table table' : List ℕ) (r : Result Unit ChangeError) → ChangeLoad site cell load table r site' table'
      → (edited : Edited) → SiteSetLoad site cell load edited
      → change_given r ≡ refused 26 [] ↔ ((EditDone edited) × (LongEnough site table) × (IsThePlan site table → ⊥))
  -- "Afterwards record and table equal a fresh plan of the edited site": the record, the table and the answer are those of `set_load` and then `plan`
  pub fresh_plan : (site site' : Site) (cell load : ℕ) (table table' : List ℕ) (r : Result Unit ChangeError) → ChangeLoad site cell load table r site' table'
      → LongEnough site table → IsThePlan site table
      → (edited : Edited) → SiteSetLoad site cell load edited → EditDone edited
      → (left : List ℕ) (planned : Result Unit PlanError) → Plan edited.site table planned left
      → (site' ≡ edited.site) × (table' ≡ left) × (change_given r ≡ plan_given planned)
  -- "the rows of lower cells were never written": where it is done they are as they were
  pub lower_rows_stay : (site site' : Site) (cell load : ℕ) (table table' : List ℕ) (r : Result Unit ChangeError)
      → ChangeLoad site cell load table r site' table'
      → change_given r ≡ done → take ((cell - 1) * positions site) table' ≡ take ((cell - 1) * positions site) table
  -- a change that is done leaves a table that is the plan of the record, so that the next one is not 26
  pub leaves_the_plan : (site site' : Site) (cell load : ℕ) (table table' : List ℕ) (r : Result Unit ChangeError)
      → ChangeLoad site cell load table r site' table'
      → change_given r ≡ done → (LongEnough site' table') × (IsThePlan site' table')
  pub next_not_26 : (site site' last : Site) (cell load cell₂ load₂ : ℕ) (table table' table'' : List ℕ) (r q : Result Unit ChangeError)
      → ChangeLoad site cell load table r site' table' → change_given r ≡ done → ChangeLoad site' cell₂ load₂ table' q last table''
      → change_given q ≡ refused 26 [] → ⊥
  -- two edits in a row are the two edits' fresh plan, over the first table
  pub two_edits : (site site' last : Site) (cell load cell₂ load₂ : ℕ) (table table' table'' : List ℕ) (r q : Result Unit ChangeError)
      → ChangeLoad site cell load table r site' table' → change_given r ≡ done → ChangeLoad site' cell₂ load₂ table' q last table''
      → (edited : Edited) → SiteSetLoad site cell load edited
      → (again : Edited) → SiteSetLoad edited.site cell₂ load₂ again → EditDone again
      → (left : List ℕ) (planned : Result Unit PlanError) → Plan again.site table planned left
      → (last ≡ again.site) × (table'' ≡ left) × (change_given q ≡ plan_given planned)
  -- "5 keeps the edit and leaves the site's part idle, lower rows included: the one exception"
  pub five_keeps_the_edit : (site site' : Site) (cell load : ℕ) (table table' : List ℕ) (r : Result Unit ChangeError)
      → ChangeLoad site cell load table r site' table'
      → (change_given r).number ≡ 5 → (edited : Edited) → SiteSetLoad site cell load edited
      → (site' ≡ edited.site) × (Idle (size site) table table')
