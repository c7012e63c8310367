-- For any arguments one answer and one content of what is lent meet the contract, and no other, in crate `say_csv`: by its equalities alone.
-- Made by tools/surface from the source. Assumes nothing.
use Rattle.std.specs.Prelude.{List, Option, Result, length, refl, ℕ, ◌+◌, ◌≡◌}
use Rattle.auditing.specs.declared.Extent.{Extent}
use Rattle.auditing.specs.declared.Form.{Form}
use Rattle.contracts.specs.SayCsvSays.{SayCsvPutFirst, SayCsvPutPlanFields, SayCsvPutRefusedFields, SayCsvPutSite, SayCsvPutUnreadFields}
use Rattle.finder.specs.declared.FindError.{FindError}
use Rattle.finder.specs.declared.Way.{Way}
use Rattle.records.specs.declared.Refusal.{Refusal}
use Rattle.say_csv.specs.Fields.{first_line, plan_field, refused_line_fields, site_fields, unread_fields}
use Rattle.say_csv.specs.declared.PlanTold.{PlanTold}
use Rattle.site.specs.declared.Site.{Site}
use Rattle.std.proofs.lemmas.List.Edits.{sets}

-- say_csv::put_first
pub say_csv_put_first-one : (out : List ℕ) (at : ℕ)
    → (r : ℕ) × (out' : List ℕ) × (SayCsvPutFirst out at r out')
    × ((q : ℕ) (out'' : List ℕ) → SayCsvPutFirst out at q out'' → (q ≡ r) × (out'' ≡ out'))
say_csv_put_first-one out at = (
  at + length first_line,
  sets out at first_line,
  record { answer = refl; out_after = refl },
  λ q out'' says. (says.answer, says.out_after),
)

-- say_csv::put_refused_fields
pub say_csv_put_refused_fields-one : (out : List ℕ) (at : ℕ) (reply : Result Unit Refusal)
    → (r : ℕ) × (out' : List ℕ) × (SayCsvPutRefusedFields out at reply r out')
    × ((q : ℕ) (out'' : List ℕ) → SayCsvPutRefusedFields out at reply q out'' → (q ≡ r) × (out'' ≡ out'))
say_csv_put_refused_fields-one out at reply = (
  at + length (refused_line_fields reply),
  sets out at (refused_line_fields reply),
  record { answer = refl; out_after = refl },
  λ q out'' says. (says.answer, says.out_after),
)

-- say_csv::put_unread_fields
pub say_csv_put_unread_fields-one : (out : List ℕ) (at : ℕ)
    → (r : ℕ) × (out' : List ℕ) × (SayCsvPutUnreadFields out at r out')
    × ((q : ℕ) (out'' : List ℕ) → SayCsvPutUnreadFields out at q out'' → (q ≡ r) × (out'' ≡ out'))
say_csv_put_unread_fields-one out at = (
  at + length unread_fields,
  sets out at unread_fields,
  record { answer = refl; out_after = refl },
  λ q out'' says. (says.answer, says.out_after),
)

-- say_csv::put_site
pub say_csv_put_site-one : (out : List ℕ) (at : ℕ) (site : Site) (form : Form) (found : Result Way FindError) (takes : Extent) (room : ℕ)
    → (r : ℕ) × (out' : List ℕ) × (SayCsvPutSite out at site form found takes room r out')
    × ((q : ℕ) (out'' : List ℕ) → SayCsvPutSite out at site form found takes room q out'' → (q ≡ r) × (out'' ≡ out'))
say_csv_put_site-one out at site form found takes room = (
  at + length (site_fields site form found takes room),
  sets out at (site_fields site form found takes room),
  record { answer = refl; out_after = refl },
  λ q out'' says. (says.answer, says.out_after),
)

-- say_csv::put_plan_fields
pub say_csv_put_plan_fields-one : (out : List ℕ) (at : ℕ) (plan : Option PlanTold)
    → (r : ℕ) × (out' : List ℕ) × (SayCsvPutPlanFields out at plan r out')
    × ((q : ℕ) (out'' : List ℕ) → SayCsvPutPlanFields out at plan q out'' → (q ≡ r) × (out'' ≡ out'))
say_csv_put_plan_fields-one out at plan = (
  at + length (plan_field plan),
  sets out at (plan_field plan),
  record { answer = refl; out_after = refl },
  λ q out'' says. (says.answer, says.out_after),
)
