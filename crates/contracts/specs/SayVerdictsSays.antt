-- The equalities that the contracts of crate `say_verdicts` state: r is the answer, and x' what a lent x holds afterwards.
-- Made by tools/surface from the source.
use Rattle.std.specs.Prelude.{List, Result, length, ℕ, ◌+◌, ◌≡◌}
use Rattle.checker.specs.declared.CheckError.{CheckError}
use Rattle.mender.specs.declared.MendError.{MendError}
use Rattle.planner.specs.declared.PlanError.{PlanError}
use Rattle.records.specs.declared.Refusal.{Refusal}
use Rattle.shares.specs.declared.Fragments.{Fragments}
use Rattle.shares.specs.declared.ShareError.{ShareError}
use Rattle.shares.specs.declared.Slots.{Slots}
use Rattle.sheet.specs.declared.SheetError.{SheetError}
use Rattle.site.specs.declared.Fault.{Fault}
use Rattle.site.specs.declared.Site.{Site}
use Rattle.std.proofs.lemmas.List.Edits.{sets}
use Rattle.verdicts.specs.Said.{bad_list_line, check_said, mend_said, other_plan_line, plan_said, read_said, record_said, repeats_line, share_said, sheet_said}
use Rattle.verdicts.specs.declared.File.{File}

-- say_verdicts::put_fault
pub record SayVerdictsPutFault (out : List ℕ) (at : ℕ) (reply : Result Unit Fault) (r : ℕ) (out' : List ℕ) : Type 0 where
  pub answer : r ≡ at + length (record_said reply)
  pub out_after : out' ≡ sets out at (record_said reply)

-- say_verdicts::put_read
pub record SayVerdictsPutRead (out : List ℕ) (at : ℕ) (file : File) (reply : Result Unit Refusal) (r : ℕ) (out' : List ℕ) : Type 0 where
  pub answer : r ≡ at + length (read_said file reply)
  pub out_after : out' ≡ sets out at (read_said file reply)

-- say_verdicts::put_sheet_read
pub record SayVerdictsPutSheetRead (out : List ℕ) (at : ℕ) (reply : Result Unit SheetError) (r : ℕ) (out' : List ℕ) : Type 0 where
  pub answer : r ≡ at + length (sheet_said reply)
  pub out_after : out' ≡ sets out at (sheet_said reply)

-- say_verdicts::put_check
pub record SayVerdictsPutCheck (out : List ℕ) (at : ℕ) (site : Site) (reply : Result Unit CheckError) (r : ℕ) (out' : List ℕ) : Type 0 where
  pub answer : r ≡ at + length (check_said site reply)
  pub out_after : out' ≡ sets out at (check_said site reply)

-- say_verdicts::put_plan
pub record SayVerdictsPutPlan (out : List ℕ) (at : ℕ) (site : Site) (reply : Result Unit PlanError) (r : ℕ) (out' : List ℕ) : Type 0 where
  pub answer : r ≡ at + length (plan_said site reply)
  pub out_after : out' ≡ sets out at (plan_said site reply)

-- say_verdicts::put_other_plan
pub record SayVerdictsPutOtherPlan (out : List ℕ) (at : ℕ) (cells : ℕ) (slots : ℕ) (channels : ℕ) (r : ℕ) (out' : List ℕ) : Type 0 where
  pub answer : r ≡ at + length (other_plan_line cells slots channels)
  pub out_after : out' ≡ sets out at (other_plan_line cells slots channels)

-- say_verdicts::put_bad_list
pub record SayVerdictsPutBadList (out : List ℕ) (at : ℕ) (character : ℕ) (r : ℕ) (out' : List ℕ) : Type 0 where
  pub answer : r ≡ at + length (bad_list_line character)
  pub out_after : out' ≡ sets out at (bad_list_line character)

-- say_verdicts::put_repeats
pub record SayVerdictsPutRepeats (out : List ℕ) (at : ℕ) (repeats : ℕ) (r : ℕ) (out' : List ℕ) : Type 0 where
  pub answer : r ≡ at + length (repeats_line repeats)
  pub out_after : out' ≡ sets out at (repeats_line repeats)

-- say_verdicts::put_share
pub record SayVerdictsPutShare (out : List ℕ) (at : ℕ) (burst : ℕ) (period : ℕ) (reply : Result (Fragments × Fragments × Slots) ShareError) (r : ℕ)
    (out' : List ℕ) : Type 0 where
  pub answer : r ≡ at + length (share_said burst period reply)
  pub out_after : out' ≡ sets out at (share_said burst period reply)

-- say_verdicts::put_mend
pub record SayVerdictsPutMend (out : List ℕ) (at : ℕ) (reply : Result ℕ MendError) (r : ℕ) (out' : List ℕ) : Type 0 where
  pub answer : r ≡ at + length (mend_said reply)
  pub out_after : out' ≡ sets out at (mend_said reply)
