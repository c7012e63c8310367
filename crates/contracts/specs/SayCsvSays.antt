-- The equalities that the contracts of crate `say_csv` state: r is the answer, and x' what a lent x holds afterwards.
-- Made by tools/surface from the source.
use Rattle.std.specs.Prelude.{List, Option, Result, length, ℕ, ◌+◌, ◌≡◌}
use Rattle.auditing.specs.declared.Extent.{Extent}
use Rattle.auditing.specs.declared.Form.{Form}
use Rattle.finder.specs.declared.FindError.{FindError}
use Rattle.finder.specs.declared.Way.{Way}
use Rattle.records.specs.declared.Refusal.{Refusal}
use Rattle.say_csv.specs.Fields.{first_line, plan_field, refused_line_fields, site_fields, unread_fields}
use Rattle.say_csv.specs.declared.PlanTold.{PlanTold}
use Rattle.site.specs.declared.Site.{Site}
use Rattle.std.proofs.lemmas.List.Edits.{sets}

-- say_csv::put_first
pub record SayCsvPutFirst (out : List ℕ) (at : ℕ) (r : ℕ) (out' : List ℕ) : Type 0 where
  pub answer : r ≡ at + length first_line
  pub out_after : out' ≡ sets out at first_line

-- say_csv::put_refused_fields
pub record SayCsvPutRefusedFields (out : List ℕ) (at : ℕ) (reply : Result Unit Refusal) (r : ℕ) (out' : List ℕ) : Type 0 where
  pub answer : r ≡ at + length (refused_line_fields reply)
  pub out_after : out' ≡ sets out at (refused_line_fields reply)

-- say_csv::put_unread_fields
pub record SayCsvPutUnreadFields (out : List ℕ) (at : ℕ) (r : ℕ) (out' : List ℕ) : Type 0 where
  pub answer : r ≡ at + length unread_fields
  pub out_after : out' ≡ sets out at unread_fields

-- say_csv::put_site
pub record SayCsvPutSite (out : List ℕ) (at : ℕ) (site : Site) (form : Form) (found : Result Way FindError) (takes : Extent) (room : ℕ) (r : ℕ)
    (out' : List ℕ) : Type 0 where
  pub answer : r ≡ at + length (site_fields site form found takes room)
  pub out_after : out' ≡ sets out at (site_fields site form found takes room)

-- say_csv::put_plan_fields
pub record SayCsvPutPlanFields (out : List ℕ) (at : ℕ) (plan : Option PlanTold) (r : ℕ) (out' : List ℕ) : Type 0 where
  pub answer : r ≡ at + length (plan_field plan)
  pub out_after : out' ≡ sets out at (plan_field plan)
