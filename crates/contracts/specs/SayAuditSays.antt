-- The equalities that the contracts of crate `say_audit` state: r is the answer, and x' what a lent x holds afterwards.
-- Made by tools/surface from the source.
use Rattle.std.specs.Prelude.{Bool, List, Result, length, ℕ, ◌+◌, ◌≡◌}
use Rattle.auditing.specs.declared.Extent.{Extent}
use Rattle.auditing.specs.declared.Form.{Form}
use Rattle.checker.specs.declared.CheckError.{CheckError}
use Rattle.finder.specs.declared.FindError.{FindError}
use Rattle.finder.specs.declared.Way.{Way}
use Rattle.mender.specs.declared.MendError.{MendError}
use Rattle.records.specs.declared.Refusal.{Refusal}
use Rattle.say_audit.specs.Said.{audited_said, checked_said, line_end, other_size_said, plan_refused, shown_name, site_refused, unread_plan, unread_said}
use Rattle.site.specs.declared.Site.{Site}
use Rattle.std.proofs.lemmas.List.Edits.{sets}

-- say_audit::put_shown
pub record SayAuditPutShown (out : List ℕ) (at : ℕ) (name : List ℕ) (r : ℕ) (out' : List ℕ) : Type 0 where
  pub answer : r ≡ at + length (shown_name name)
  pub out_after : out' ≡ sets out at (shown_name name)

-- say_audit::put_audited
pub record SayAuditPutAudited (out : List ℕ) (at : ℕ) (site : Site) (form : Form) (found : Result Way FindError) (takes : Extent) (room : ℕ) (r : ℕ)
    (out' : List ℕ) : Type 0 where
  pub answer : r ≡ at + length (audited_said site form found takes room)
  pub out_after : out' ≡ sets out at (audited_said site form found takes room)

-- say_audit::put_line_end
pub record SayAuditPutLineEnd (out : List ℕ) (at : ℕ) (r : ℕ) (out' : List ℕ) : Type 0 where
  pub answer : r ≡ at + length line_end
  pub out_after : out' ≡ sets out at line_end

-- say_audit::put_checked
pub record SayAuditPutChecked (out : List ℕ) (at : ℕ) (site : Site) (verdict : Result Unit CheckError) (mended : Result ℕ MendError) (unseen : Bool)
    (r : ℕ) (out' : List ℕ) : Type 0 where
  pub answer : r ≡ at + length (checked_said site verdict mended unseen)
  pub out_after : out' ≡ sets out at (checked_said site verdict mended unseen)

-- say_audit::put_site_refused
pub record SayAuditPutSiteRefused (out : List ℕ) (at : ℕ) (reply : Result Unit Refusal) (r : ℕ) (out' : List ℕ) : Type 0 where
  pub answer : r ≡ at + length (site_refused reply)
  pub out_after : out' ≡ sets out at (site_refused reply)

-- say_audit::put_plan_refused
pub record SayAuditPutPlanRefused (out : List ℕ) (at : ℕ) (reply : Result Unit Refusal) (r : ℕ) (out' : List ℕ) : Type 0 where
  pub answer : r ≡ at + length (plan_refused reply)
  pub out_after : out' ≡ sets out at (plan_refused reply)

-- say_audit::put_other_size
pub record SayAuditPutOtherSize (out : List ℕ) (at : ℕ) (cells : ℕ) (slots : ℕ) (channels : ℕ) (r : ℕ) (out' : List ℕ) : Type 0 where
  pub answer : r ≡ at + length (other_size_said cells slots channels)
  pub out_after : out' ≡ sets out at (other_size_said cells slots channels)

-- say_audit::put_unread
pub record SayAuditPutUnread (out : List ℕ) (at : ℕ) (r : ℕ) (out' : List ℕ) : Type 0 where
  pub answer : r ≡ at + length unread_said
  pub out_after : out' ≡ sets out at unread_said

-- say_audit::put_unread_plan
pub record SayAuditPutUnreadPlan (out : List ℕ) (at : ℕ) (r : ℕ) (out' : List ℕ) : Type 0 where
  pub answer : r ≡ at + length unread_plan
  pub out_after : out' ≡ sets out at unread_plan
