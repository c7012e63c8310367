-- For any arguments one answer and one content of what is lent meet the contract, and no other, in crate `say_audit`: by its equalities alone.
-- Made by tools/surface from the source. Assumes nothing.
use Rattle.std.specs.Prelude.{Bool, List, Result, length, refl, ℕ, ◌+◌, ◌≡◌}
use Rattle.auditing.specs.declared.Extent.{Extent}
use Rattle.auditing.specs.declared.Form.{Form}
use Rattle.checker.specs.declared.CheckError.{CheckError}
use Rattle.contracts.specs.SayAuditSays.{SayAuditPutAudited, SayAuditPutChecked, SayAuditPutLineEnd, SayAuditPutOtherSize, SayAuditPutPlanRefused}
use Rattle.contracts.specs.SayAuditSays.{SayAuditPutShown, SayAuditPutSiteRefused, SayAuditPutUnread, SayAuditPutUnreadPlan}
use Rattle.finder.specs.declared.FindError.{FindError}
use Rattle.finder.specs.declared.Way.{Way}
use Rattle.mender.specs.declared.MendError.{MendError}
use Rattle.records.specs.declared.Refusal.{Refusal}
use Rattle.say_audit.specs.Said.{audited_said, checked_said, line_end, other_size_said, plan_refused, shown_name, site_refused, unread_plan, unread_said}
use Rattle.site.specs.declared.Site.{Site}
use Rattle.std.proofs.lemmas.List.Edits.{sets}

-- say_audit::put_shown
pub say_audit_put_shown-one : (out : List ℕ) (at : ℕ) (name : List ℕ)
    → (r : ℕ) × (out' : List ℕ) × (SayAuditPutShown out at name r out')
    × ((q : ℕ) (out'' : List ℕ) → SayAuditPutShown out at name q out'' → (q ≡ r) × (out'' ≡ out'))
say_audit_put_shown-one out at name = (
  at + length (shown_name name),
  sets out at (shown_name name),
  record { answer = refl; out_after = refl },
  λ q out'' says. (says.answer, says.out_after),
)

-- say_audit::put_audited
pub say_audit_put_audited-one : (out : List ℕ) (at : ℕ) (site : Site) (form : Form) (found : Result Way FindError) (takes : Extent) (room : ℕ)
    → (r : ℕ) × (out' : List ℕ) × (SayAuditPutAudited out at site form found takes room r out')
    × ((q : ℕ) (out'' : List ℕ) → SayAuditPutAudited out at site form found takes room q out'' → (q ≡ r) × (out'' ≡ out'))
say_audit_put_audited-one out at site form found takes room = (
  at + length (audited_said site form found takes room),
  sets out at (audited_said site form found takes room),
  record { answer = refl; out_after = refl },
  λ q out'' says. (says.answer, says.out_after),
)

-- say_audit::put_line_end
pub say_audit_put_line_end-one : (out : List ℕ) (at : ℕ)
    → (r : ℕ) × (out' : List ℕ) × (SayAuditPutLineEnd out at r out')
    × ((q : ℕ) (out'' : List ℕ) → SayAuditPutLineEnd out at q out'' → (q ≡ r) × (out'' ≡ out'))
say_audit_put_line_end-one out at = (
  at + length line_end,
  sets out at line_end,
  record { answer = refl; out_after = refl },
  λ q out'' says. (says.answer, says.out_after),
)

-- say_audit::put_checked
pub say_audit_put_checked-one : (out : List ℕ) (at : ℕ) (site : Site) (verdict : Result Unit CheckError) (mended : Result ℕ MendError) (unseen : Bool)
    → (r : ℕ) × (out' : List ℕ) × (SayAuditPutChecked out at site verdict mended unseen r out')
    × ((q : ℕ) (out'' : List ℕ) → SayAuditPutChecked out at site verdict mended unseen q out'' → (q ≡ r) × (out'' ≡ out'))
say_audit_put_checked-one out at site verdict mended unseen = (
  at + length (checked_said site verdict mended unseen),
  sets out at (checked_said site verdict mended unseen),
  record { answer = refl; out_after = refl },
  λ q out'' says. (says.answer, says.out_after),
)

-- say_audit::put_site_refused
pub say_audit_put_site_refused-one : (out : List ℕ) (at : ℕ) (reply : Result Unit Refusal)
    → (r : ℕ) × (out' : List ℕ) × (SayAuditPutSiteRefused out at reply r out')
    × ((q : ℕ) (out'' : List ℕ) → SayAuditPutSiteRefused out at reply q out'' → (q ≡ r) × (out'' ≡ out'))
say_audit_put_site_refused-one out at reply = (
  at + length (site_refused reply),
  sets out at (site_refused reply),
  record { answer = refl; out_after = refl },
  λ q out'' says. (says.answer, says.out_after),
)

-- say_audit::put_plan_refused
pub say_audit_put_plan_refused-one : (out : List ℕ) (at : ℕ) (reply : Result Unit Refusal)
    → (r : ℕ) × (out' : List ℕ) × (SayAuditPutPlanRefused out at reply r out')
    × ((q : ℕ) (out'' : List ℕ) → SayAuditPutPlanRefused out at reply q out'' → (q ≡ r) × (out'' ≡ out'))
say_audit_put_plan_refused-one out at reply = (
  at + length (plan_refused reply),
  sets out at (plan_refused reply),
  record { answer = refl; out_after = refl },
  λ q out'' says. (says.answer, says.out_after),
)

-- say_audit::put_other_size
pub say_audit_put_other_size-one : (out : List ℕ) (at : ℕ) (cells : ℕ) (slots : ℕ) (channels : ℕ)
    → (r : ℕ) × (out' : List ℕ) × (SayAuditPutOtherSize out at cells slots channels r out')
    × ((q : ℕ) (out'' : List ℕ) → SayAuditPutOtherSize out at cells slots channels q out'' → (q ≡ r) × (out'' ≡ out'))
say_audit_put_other_size-one out at cells slots channels = (
  at + length (other_size_said cells slots channels),
  sets out at (other_size_said cells slots channels),
  record { answer = refl; out_after = refl },
  λ q out'' says. (says.answer, says.out_after),
)

-- say_audit::put_unread
pub say_audit_put_unread-one : (out : List ℕ) (at : ℕ)
    → (r : ℕ) × (out' : List ℕ) × (SayAuditPutUnread out at r out')
    × ((q : ℕ) (out'' : List ℕ) → SayAuditPutUnread out at q out'' → (q ≡ r) × (out'' ≡ out'))
say_audit_put_unread-one out at = (
  at + length unread_said,
  sets out at unread_said,
  record { answer = refl; out_after = refl },
  λ q out'' says. (says.answer, says.out_after),
)

-- say_audit::put_unread_plan
pub say_audit_put_unread_plan-one : (out : List ℕ) (at : ℕ)
    → (r : ℕ) × (out' : List ℕ) × (SayAuditPutUnreadPlan out at r out')
    × ((q : ℕ) (out'' : List ℕ) → SayAuditPutUnreadPlan out at q out'' → (q ≡ r) × (out'' ≡ out'))
say_audit_put_unread_plan-one out at = (
  at + length unread_plan,
  sets out at unread_plan,
  record { answer = refl; out_after = refl },
  λ q out'' says. (says.answer, says.out_after),
)
