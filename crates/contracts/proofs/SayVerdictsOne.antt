-- For any arguments one answer and one content of what is lent meet the contract, and no other, in crate `say_verdicts`: by its equalities alone.
-- Made by tools/surface from the source. Assumes nothing.
use Rattle.std.specs.Prelude.{List, Result, length, refl, ℕ, ◌+◌, ◌≡◌}
use Rattle.checker.specs.declared.CheckError.{CheckError}
use Rattle.contracts.specs.SayVerdictsSays.{SayVerdictsPutBadList, SayVerdictsPutCheck, SayVerdictsPutFault, SayVerdictsPutMend, SayVerdictsPutOtherPlan}
use Rattle.contracts.specs.SayVerdictsSays.{SayVerdictsPutPlan, SayVerdictsPutRead, SayVerdictsPutRepeats, SayVerdictsPutShare, SayVerdictsPutSheetRead}
use Rattle.mender.specs.declared.MendError.{MendError}
use Rattle.planner.specs.declared.PlanError.{PlanError}
use Rattle.records.specs.declared.Refusal.{Refusal}
use Rattle.shares.specs.declared.Fragments.{Fragments}
use Rattle.shares.specs.declared.ShareError.{ShareError}
use Rattle.shares.specs.declared.Slots.{Slots}
use Rattle.sheet.specs.declared.SheetError.{SheetError}
use Rattle.site.specs.declared.Fault.{Fault}
use Rattle.site.specs.declared.Site.{Site}
use Rattle.std.proofs.lemmas.List.Edits.{sets}
use Rattle.verdicts.specs.Said.{bad_list_line, check_said, mend_said, other_plan_line, plan_said, read_said, record_said, repeats_line, share_said, sheet_said}
use Rattle.verdicts.specs.declared.File.{File}

-- say_verdicts::put_fault
pub say_verdicts_put_fault-one : (out : List ℕ) (at : ℕ) (reply : Result Unit Fault)
    → (r : ℕ) × (out' : List ℕ) × (SayVerdictsPutFault out at reply r out')
    × ((q : ℕ) (out'' : List ℕ) → SayVerdictsPutFault out at reply q out'' → (q ≡ r) × (out'' ≡ out'))
say_verdicts_put_fault-one out at reply = (
  at + length (record_said reply),
  sets out at (record_said reply),
  record { answer = refl; out_after = refl },
  λ q out'' says. (says.answer, says.out_after),
)

-- say_verdicts::put_read
pub say_verdicts_put_read-one : (out : List ℕ) (at : ℕ) (file : File) (reply : Result Unit Refusal)
    → (r : ℕ) × (out' : List ℕ) × (SayVerdictsPutRead out at file reply r out')
    × ((q : ℕ) (out'' : List ℕ) → SayVerdictsPutRead out at file reply q out'' → (q ≡ r) × (out'' ≡ out'))
say_verdicts_put_read-one out at file reply = (
  at + length (read_said file reply),
  sets out at (read_said file reply),
  record { answer = refl; out_after = refl },
  λ q out'' says. (says.answer, says.out_after),
)

-- say_verdicts::put_sheet_read
pub say_verdicts_put_sheet_read-one : (out : List ℕ) (at : ℕ) (reply : Result Unit SheetError)
    → (r : ℕ) × (out' : List ℕ) × (SayVerdictsPutSheetRead out at reply r out')
    × ((q : ℕ) (out'' : List ℕ) → SayVerdictsPutSheetRead out at reply q out'' → (q ≡ r) × (out'' ≡ out'))
say_verdicts_put_sheet_read-one out at reply = (
  at + length (sheet_said reply),
  sets out at (sheet_said reply),
  record { answer = refl; out_after = refl },
  λ q out'' says. (says.answer, says.out_after),
)

-- say_verdicts::put_check
pub say_verdicts_put_check-one : (out : List ℕ) (at : ℕ) (site : Site) (reply : Result Unit CheckError)
    → (r : ℕ) × (out' : List ℕ) × (SayVerdictsPutCheck out at site reply r out')
    × ((q : ℕ) (out'' : List ℕ) → SayVerdictsPutCheck out at site reply q out'' → (q ≡ r) × (out'' ≡ out'))
say_verdicts_put_check-one out at site reply = (
  at + length (check_said site reply),
  sets out at (check_said site reply),
  record { answer = refl; out_after = refl },
  λ q out'' says. (says.answer, says.out_after),
)

-- say_verdicts::put_plan
pub say_verdicts_put_plan-one : (out : List ℕ) (at : ℕ) (site : Site) (reply : Result Unit PlanError)
    → (r : ℕ) × (out' : List ℕ) × (SayVerdictsPutPlan out at site reply r out')
    × ((q : ℕ) (out'' : List ℕ) → SayVerdictsPutPlan out at site reply q out'' → (q ≡ r) × (out'' ≡ out'))
say_verdicts_put_plan-one out at site reply = (
  at + length (plan_said site reply),
  sets out at (plan_said site reply),
  record { answer = refl; out_after = refl },
  λ q out'' says. (says.answer, says.out_after),
)

-- say_verdicts::put_other_plan
pub say_verdicts_put_other_plan-one : (out : List ℕ) (at : ℕ) (cells : ℕ) (slots : ℕ) (channels : ℕ)
    → (r : ℕ) × (out' : List ℕ) × (SayVerdictsPutOtherPlan out at cells slots channels r out')
    × ((q : ℕ) (out'' : List ℕ) → SayVerdictsPutOtherPlan out at cells slots channels q out'' → (q ≡ r) × (out'' ≡ out'))
say_verdicts_put_other_plan-one out at cells slots channels = (
  at + length (other_plan_line cells slots channels),
  sets out at (other_plan_line cells slots channels),
  record { answer = refl; out_after = refl },
  λ q out'' says. (says.answer, says.out_after),
)

-- say_verdicts::put_bad_list
pub say_verdicts_put_bad_list-one : (out : List ℕ) (at : ℕ) (character : ℕ)
    → (r : ℕ) × (out' : List ℕ) × (SayVerdictsPutBadList out at character r out')
    × ((q : ℕ) (out'' : List ℕ) → SayVerdictsPutBadList out at character q out'' → (q ≡ r) × (out'' ≡ out'))
say_verdicts_put_bad_list-one out at character = (
  at + length (bad_list_line character),
  sets out at (bad_list_line character),
  record { answer = refl; out_after = refl },
  λ q out'' says. (says.answer, says.out_after),
)

-- say_verdicts::put_repeats
pub say_verdicts_put_repeats-one : (out : List ℕ) (at : ℕ) (repeats : ℕ)
    → (r : ℕ) × (out' : List ℕ) × (SayVerdictsPutRepeats out at repeats r out')
    × ((q : ℕ) (out'' : List ℕ) → SayVerdictsPutRepeats out at repeats q out'' → (q ≡ r) × (out'' ≡ out'))
say_verdicts_put_repeats-one out at repeats = (
  at + length (repeats_line repeats),
  sets out at (repeats_line repeats),
  record { answer = refl; out_after = refl },
  λ q out'' says. (says.answer, says.out_after),
)

-- say_verdicts::put_share
pub say_verdicts_put_share-one : (out : List ℕ) (at : ℕ) (burst : ℕ) (period : ℕ) (reply : Result (Fragments × Fragments × Slots) ShareError)
    → (r : ℕ) × (out' : List ℕ) × (SayVerdictsPutShare out at burst period reply r out')
    × ((q : ℕ) (out'' : List ℕ) → SayVerdictsPutShare out at burst period reply q out'' → (q ≡ r) × (out'' ≡ out'))
say_verdicts_put_share-one out at burst period reply = (
  at + length (share_said burst period reply),
  sets out at (share_said burst period reply),
  record { answer = refl; out_after = refl },
  λ q out'' says. (says.answer, says.out_after),
)

-- say_verdicts::put_mend
pub say_verdicts_put_mend-one : (out : List ℕ) (at : ℕ) (reply : Result ℕ MendError)
    → (r : ℕ) × (out' : List ℕ) × (SayVerdictsPutMend out at reply r out')
    × ((q : ℕ) (out'' : List ℕ) → SayVerdictsPutMend out at reply q out'' → (q ≡ r) × (out'' ≡ out'))
say_verdicts_put_mend-one out at reply = (
  at + length (mend_said reply),
  sets out at (mend_said reply),
  record { answer = refl; out_after = refl },
  λ q out'' says. (says.answer, says.out_after),
)
