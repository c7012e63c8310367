-- For any arguments one answer and one content of what is lent meet the contract, and no other, in crate `told`: by its equalities alone.
-- Made by tools/surface from the source. Assumes nothing.
use Rattle.std.specs.Prelude.{Bool, Err, Result, refl, ℕ, ◌≡◌}
use Rattle.admission.specs.Given.{admit_given, beside_given}
use Rattle.admission.specs.declared.AdmitError.{AdmitError}
use Rattle.admission.specs.declared.BesideError.{BesideError}
use Rattle.checker.specs.Given.{check_given}
use Rattle.checker.specs.declared.CheckError.{CheckError}
use Rattle.contracts.specs.ToldSays.{ToldAnswerFromAdmitError, ToldAnswerFromFault, ToldAnswerFromResultBoolFault, ToldAnswerFromResultCarryError}
use Rattle.contracts.specs.ToldSays.{ToldAnswerFromResultChainVerdictFault, ToldAnswerFromResultChangeError, ToldAnswerFromResultCheckError}
use Rattle.contracts.specs.ToldSays.{ToldAnswerFromResultClassVerdictFault, ToldAnswerFromResultFault, ToldAnswerFromResultFormError}
use Rattle.contracts.specs.ToldSays.{ToldAnswerFromResultFragmentsFragmentsSlotsShareError, ToldAnswerFromResultLeastVerdictFault}
use Rattle.contracts.specs.ToldSays.{ToldAnswerFromResultLoadVerdictFault, ToldAnswerFromResultOverFullFault, ToldAnswerFromResultPlanError}
use Rattle.contracts.specs.ToldSays.{ToldAnswerFromResultRefusal, ToldAnswerFromResultRenumberError, ToldAnswerFromResultSheetError}
use Rattle.contracts.specs.ToldSays.{ToldAnswerFromResultU32AdmitError, ToldAnswerFromResultU32BesideError, ToldAnswerFromResultU64SearchError}
use Rattle.contracts.specs.ToldSays.{ToldAnswerFromResultUsizeMendError, ToldAnswerFromResultUsizePlanWriteError, ToldAnswerFromResultUsizeTidyError}
use Rattle.contracts.specs.ToldSays.{ToldAnswerFromResultUsizeU32Fault, ToldAnswerFromResultUsizeWriteError, ToldAnswerFromResultWayFindError, ToldGive}
use Rattle.contracts.specs.ToldSays.{ToldRenumberedCFromRenumbered}
use Rattle.finder.specs.Given.{find_given, over_full_given}
use Rattle.finder.specs.declared.FindError.{FindError}
use Rattle.finder.specs.declared.OverFull.{OverFull}
use Rattle.finder.specs.declared.Way.{Way}
use Rattle.handheld.specs.Given.{change_given}
use Rattle.handheld.specs.declared.ChangeError.{ChangeError}
use Rattle.heaviest.specs.Given.{heaviest_given}
use Rattle.judges.specs.Given.{chain_given, class_given, least_given, load_given}
use Rattle.judges.specs.declared.ChainVerdict.{ChainVerdict}
use Rattle.judges.specs.declared.ClassVerdict.{ClassVerdict}
use Rattle.judges.specs.declared.LeastVerdict.{LeastVerdict}
use Rattle.judges.specs.declared.LoadVerdict.{LoadVerdict}
use Rattle.mender.specs.Given.{mend_given}
use Rattle.mender.specs.declared.MendError.{MendError}
use Rattle.numbering.specs.Given.{carry_given, renumber_given}
use Rattle.numbering.specs.declared.CarryError.{CarryError}
use Rattle.numbering.specs.declared.RenumberError.{RenumberError}
use Rattle.numbering.specs.declared.Renumbered.{Renumbered}
use Rattle.planfile.specs.Given.{plan_written_given}
use Rattle.planfile.specs.declared.PlanWriteError.{PlanWriteError}
use Rattle.planner.specs.Given.{plan_given}
use Rattle.planner.specs.declared.PlanError.{PlanError}
use Rattle.records.specs.Given.{read_given, written_given}
use Rattle.records.specs.declared.Refusal.{Refusal}
use Rattle.records.specs.declared.WriteError.{WriteError}
use Rattle.search.specs.Given.{search_given}
use Rattle.search.specs.declared.SearchError.{SearchError}
use Rattle.shares.specs.Given.{share_given}
use Rattle.shares.specs.declared.Fragments.{Fragments}
use Rattle.shares.specs.declared.ShareError.{ShareError}
use Rattle.shares.specs.declared.Slots.{Slots}
use Rattle.sheet.specs.Given.{sheet_given}
use Rattle.sheet.specs.declared.SheetError.{SheetError}
use Rattle.site.specs.Given.{clash_given, done_given, fault_given}
use Rattle.site.specs.declared.Fault.{Fault}
use Rattle.tidying.specs.Given.{tidy_given}
use Rattle.tidying.specs.declared.TidyError.{TidyError}
use Rattle.told.specs.Told.{numbered, told, told_renumbered}
use Rattle.told.specs.declared.Answer.{Answer}
use Rattle.told.specs.declared.RenumberedC.{RenumberedC}
use Rattle.wordtable.specs.Given.{form_given}
use Rattle.wordtable.specs.declared.FormError.{FormError}

-- told::give
pub told_give-one : (number : ℕ) (a : ℕ) (b : ℕ) (c : ℕ)
    → (r : Answer) × (ToldGive number a b c r)
    × ((q : Answer) → ToldGive number a b c q → (q ≡ r))
told_give-one number a b c = (
  numbered number a b c,
  record { answer = refl },
  λ q says. says.answer,
)

-- told::Answer::from_fault
pub told_answer_from_fault-one : (said : Fault)
    → (r : Answer) × (ToldAnswerFromFault said r)
    × ((q : Answer) → ToldAnswerFromFault said q → (q ≡ r))
told_answer_from_fault-one said = (
  told (fault_given said),
  record { answer = refl },
  λ q says. says.answer,
)

-- told::Answer::from_result_fault
pub told_answer_from_result_fault-one : (said : Result Unit Fault)
    → (r : Answer) × (ToldAnswerFromResultFault said r)
    × ((q : Answer) → ToldAnswerFromResultFault said q → (q ≡ r))
told_answer_from_result_fault-one said = (
  told (done_given said),
  record { answer = refl },
  λ q says. says.answer,
)

-- told::Answer::from_result_bool_fault
pub told_answer_from_result_bool_fault-one : (said : Result Bool Fault)
    → (r : Answer) × (ToldAnswerFromResultBoolFault said r)
    × ((q : Answer) → ToldAnswerFromResultBoolFault said q → (q ≡ r))
told_answer_from_result_bool_fault-one said = (
  told (clash_given said),
  record { answer = refl },
  λ q says. says.answer,
)

-- told::Answer::from_result_load_verdict_fault
pub told_answer_from_result_load_verdict_fault-one : (said : Result LoadVerdict Fault)
    → (r : Answer) × (ToldAnswerFromResultLoadVerdictFault said r)
    × ((q : Answer) → ToldAnswerFromResultLoadVerdictFault said q → (q ≡ r))
told_answer_from_result_load_verdict_fault-one said = (
  told (load_given said),
  record { answer = refl },
  λ q says. says.answer,
)

-- told::Answer::from_result_chain_verdict_fault
pub told_answer_from_result_chain_verdict_fault-one : (said : Result ChainVerdict Fault)
    → (r : Answer) × (ToldAnswerFromResultChainVerdictFault said r)
    × ((q : Answer) → ToldAnswerFromResultChainVerdictFault said q → (q ≡ r))
told_answer_from_result_chain_verdict_fault-one said = (
  told (chain_given said),
  record { answer = refl },
  λ q says. says.answer,
)

-- told::Answer::from_result_class_verdict_fault
pub told_answer_from_result_class_verdict_fault-one : (said : Result ClassVerdict Fault)
    → (r : Answer) × (ToldAnswerFromResultClassVerdictFault said r)
    × ((q : Answer) → ToldAnswerFromResultClassVerdictFault said q → (q ≡ r))
told_answer_from_result_class_verdict_fault-one said = (
  told (class_given said),
  record { answer = refl },
  λ q says. says.answer,
)

-- told::Answer::from_result_least_verdict_fault
pub told_answer_from_result_least_verdict_fault-one : (said : Result LeastVerdict Fault)
    → (r : Answer) × (ToldAnswerFromResultLeastVerdictFault said r)
    × ((q : Answer) → ToldAnswerFromResultLeastVerdictFault said q → (q ≡ r))
told_answer_from_result_least_verdict_fault-one said = (
  told (least_given said),
  record { answer = refl },
  λ q says. says.answer,
)

-- told::Answer::from_result_usize_u32_fault
pub told_answer_from_result_usize_u32_fault-one : (said : Result (ℕ × ℕ) Fault)
    → (r : Answer) × (ToldAnswerFromResultUsizeU32Fault said r)
    × ((q : Answer) → ToldAnswerFromResultUsizeU32Fault said q → (q ≡ r))
told_answer_from_result_usize_u32_fault-one said = (
  told (heaviest_given said),
  record { answer = refl },
  λ q says. says.answer,
)

-- told::Answer::from_result_plan_error
pub told_answer_from_result_plan_error-one : (said : Result Unit PlanError)
    → (r : Answer) × (ToldAnswerFromResultPlanError said r)
    × ((q : Answer) → ToldAnswerFromResultPlanError said q → (q ≡ r))
told_answer_from_result_plan_error-one said = (
  told (plan_given said),
  record { answer = refl },
  λ q says. says.answer,
)

-- told::Answer::from_result_u64_search_error
pub told_answer_from_result_u64_search_error-one : (said : Result ℕ SearchError)
    → (r : Answer) × (ToldAnswerFromResultU64SearchError said r)
    × ((q : Answer) → ToldAnswerFromResultU64SearchError said q → (q ≡ r))
told_answer_from_result_u64_search_error-one said = (
  told (search_given said),
  record { answer = refl },
  λ q says. says.answer,
)

-- told::Answer::from_result_way_find_error
pub told_answer_from_result_way_find_error-one : (said : Result Way FindError)
    → (r : Answer) × (ToldAnswerFromResultWayFindError said r)
    × ((q : Answer) → ToldAnswerFromResultWayFindError said q → (q ≡ r))
told_answer_from_result_way_find_error-one said = (
  told (find_given said),
  record { answer = refl },
  λ q says. says.answer,
)

-- told::Answer::from_result_over_full_fault
pub told_answer_from_result_over_full_fault-one : (said : Result OverFull Fault)
    → (r : Answer) × (ToldAnswerFromResultOverFullFault said r)
    × ((q : Answer) → ToldAnswerFromResultOverFullFault said q → (q ≡ r))
told_answer_from_result_over_full_fault-one said = (
  told (over_full_given said),
  record { answer = refl },
  λ q says. says.answer,
)

-- told::Answer::from_result_change_error
pub told_answer_from_result_change_error-one : (said : Result Unit ChangeError)
    → (r : Answer) × (ToldAnswerFromResultChangeError said r)
    × ((q : Answer) → ToldAnswerFromResultChangeError said q → (q ≡ r))
told_answer_from_result_change_error-one said = (
  told (change_given said),
  record { answer = refl },
  λ q says. says.answer,
)

-- told::Answer::from_result_check_error
pub told_answer_from_result_check_error-one : (said : Result Unit CheckError)
    → (r : Answer) × (ToldAnswerFromResultCheckError said r)
    × ((q : Answer) → ToldAnswerFromResultCheckError said q → (q ≡ r))
told_answer_from_result_check_error-one said = (
  told (check_given said),
  record { answer = refl },
  λ q says. says.answer,
)

-- told::Answer::from_result_form_error
pub told_answer_from_result_form_error-one : (said : Result Unit FormError)
    → (r : Answer) × (ToldAnswerFromResultFormError said r)
    × ((q : Answer) → ToldAnswerFromResultFormError said q → (q ≡ r))
told_answer_from_result_form_error-one said = (
  told (form_given said),
  record { answer = refl },
  λ q says. says.answer,
)

-- told::Answer::from_result_usize_mend_error
pub told_answer_from_result_usize_mend_error-one : (said : Result ℕ MendError)
    → (r : Answer) × (ToldAnswerFromResultUsizeMendError said r)
    × ((q : Answer) → ToldAnswerFromResultUsizeMendError said q → (q ≡ r))
told_answer_from_result_usize_mend_error-one said = (
  told (mend_given said),
  record { answer = refl },
  λ q says. says.answer,
)

-- told::Answer::from_result_renumber_error
pub told_answer_from_result_renumber_error-one : (said : Result Unit RenumberError)
    → (r : Answer) × (ToldAnswerFromResultRenumberError said r)
    × ((q : Answer) → ToldAnswerFromResultRenumberError said q → (q ≡ r))
told_answer_from_result_renumber_error-one said = (
  told (renumber_given said),
  record { answer = refl },
  λ q says. says.answer,
)

-- told::Answer::from_result_carry_error
pub told_answer_from_result_carry_error-one : (said : Result Unit CarryError)
    → (r : Answer) × (ToldAnswerFromResultCarryError said r)
    × ((q : Answer) → ToldAnswerFromResultCarryError said q → (q ≡ r))
told_answer_from_result_carry_error-one said = (
  told (carry_given said),
  record { answer = refl },
  λ q says. says.answer,
)

-- told::Answer::from_result_fragments_fragments_slots_share_error
pub told_answer_from_result_fragments_fragments_slots_share_error-one : (said : Result (Fragments × Fragments × Slots) ShareError)
    → (r : Answer) × (ToldAnswerFromResultFragmentsFragmentsSlotsShareError said r)
    × ((q : Answer) → ToldAnswerFromResultFragmentsFragmentsSlotsShareError said q → (q ≡ r))
told_answer_from_result_fragments_fragments_slots_share_error-one said = (
  told (share_given said),
  record { answer = refl },
  λ q says. says.answer,
)

-- told::Answer::from_admit_error
pub told_answer_from_admit_error-one : (said : AdmitError)
    → (r : Answer) × (ToldAnswerFromAdmitError said r)
    × ((q : Answer) → ToldAnswerFromAdmitError said q → (q ≡ r))
told_answer_from_admit_error-one said = (
  told (admit_given (Err said)),
  record { answer = refl },
  λ q says. says.answer,
)

-- told::Answer::from_result_u32_admit_error
pub told_answer_from_result_u32_admit_error-one : (said : Result ℕ AdmitError)
    → (r : Answer) × (ToldAnswerFromResultU32AdmitError said r)
    × ((q : Answer) → ToldAnswerFromResultU32AdmitError said q → (q ≡ r))
told_answer_from_result_u32_admit_error-one said = (
  told (admit_given said),
  record { answer = refl },
  λ q says. says.answer,
)

-- told::Answer::from_result_u32_beside_error
pub told_answer_from_result_u32_beside_error-one : (said : Result ℕ BesideError)
    → (r : Answer) × (ToldAnswerFromResultU32BesideError said r)
    × ((q : Answer) → ToldAnswerFromResultU32BesideError said q → (q ≡ r))
told_answer_from_result_u32_beside_error-one said = (
  told (beside_given said),
  record { answer = refl },
  λ q says. says.answer,
)

-- told::Answer::from_result_refusal
pub told_answer_from_result_refusal-one : (said : Result Unit Refusal)
    → (r : Answer) × (ToldAnswerFromResultRefusal said r)
    × ((q : Answer) → ToldAnswerFromResultRefusal said q → (q ≡ r))
told_answer_from_result_refusal-one said = (
  told (read_given said),
  record { answer = refl },
  λ q says. says.answer,
)

-- told::Answer::from_result_usize_write_error
pub told_answer_from_result_usize_write_error-one : (said : Result ℕ WriteError)
    → (r : Answer) × (ToldAnswerFromResultUsizeWriteError said r)
    × ((q : Answer) → ToldAnswerFromResultUsizeWriteError said q → (q ≡ r))
told_answer_from_result_usize_write_error-one said = (
  told (written_given said),
  record { answer = refl },
  λ q says. says.answer,
)

-- told::Answer::from_result_usize_plan_write_error
pub told_answer_from_result_usize_plan_write_error-one : (said : Result ℕ PlanWriteError)
    → (r : Answer) × (ToldAnswerFromResultUsizePlanWriteError said r)
    × ((q : Answer) → ToldAnswerFromResultUsizePlanWriteError said q → (q ≡ r))
told_answer_from_result_usize_plan_write_error-one said = (
  told (plan_written_given said),
  record { answer = refl },
  λ q says. says.answer,
)

-- told::Answer::from_result_sheet_error
pub told_answer_from_result_sheet_error-one : (said : Result Unit SheetError)
    → (r : Answer) × (ToldAnswerFromResultSheetError said r)
    × ((q : Answer) → ToldAnswerFromResultSheetError said q → (q ≡ r))
told_answer_from_result_sheet_error-one said = (
  told (sheet_given said),
  record { answer = refl },
  λ q says. says.answer,
)

-- told::Answer::from_result_usize_tidy_error
pub told_answer_from_result_usize_tidy_error-one : (said : Result ℕ TidyError)
    → (r : Answer) × (ToldAnswerFromResultUsizeTidyError said r)
    × ((q : Answer) → ToldAnswerFromResultUsizeTidyError said q → (q ≡ r))
told_answer_from_result_usize_tidy_error-one said = (
  told (tidy_given said),
  record { answer = refl },
  λ q says. says.answer,
)

-- told::RenumberedC::from_renumbered
pub told_renumbered_c_from_renumbered-one : (e : Renumbered)
    → (r : RenumberedC) × (ToldRenumberedCFromRenumbered e r)
    × ((q : RenumberedC) → ToldRenumberedCFromRenumbered e q → (q ≡ r))
told_renumbered_c_from_renumbered-one e = (
  told_renumbered e,
  record { answer = refl },
  λ q says. says.answer,
)
