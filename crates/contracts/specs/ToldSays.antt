-- The equalities that the contracts of crate `told` state: r is the answer, and x' what a lent x holds afterwards.
-- Made by tools/surface from the source.
use Rattle.std.specs.Prelude.{Bool, Err, Result, ℕ, ◌≡◌}
use Rattle.admission.specs.Given.{admit_given, beside_given}
use Rattle.admission.specs.declared.AdmitError.{AdmitError}
use Rattle.admission.specs.declared.BesideError.{BesideError}
use Rattle.checker.specs.Given.{check_given}
use Rattle.checker.specs.declared.CheckError.{CheckError}
use Rattle.finder.specs.Given.{find_given, over_full_given}
use Rattle.finder.specs.declared.FindError.{FindError}
use Rattle.finder.specs.declared.OverFull.{OverFull}
use Rattle.finder.specs.declared.Way.{Way}
use Rattle.handheld.specs.Given.{change_given}
use Rattle.handheld.specs.declared.ChangeError.{ChangeError}
use Rattle.heaviest.specs.Given.{heaviest_given}
use Rattle.judges.specs.Given.{chain_given, class_given, least_given, load_given}
use Rattle.judges.specs.declared.ChainVerdict.{ChainVerdict}
use Rattle.judges.specs.declared.ClassVerdict.{ClassVerdict}
use Rattle.judges.specs.declared.LeastVerdict.{LeastVerdict}
use Rattle.judges.specs.declared.LoadVerdict.{LoadVerdict}
use Rattle.mender.specs.Given.{mend_given}
use Rattle.mender.specs.declared.MendError.{MendError}
use Rattle.numbering.specs.Given.{carry_given, renumber_given}
use Rattle.numbering.specs.declared.CarryError.{CarryError}
use Rattle.numbering.specs.declared.RenumberError.{RenumberError}
use Rattle.numbering.specs.declared.Renumbered.{Renumbered}
use Rattle.planfile.specs.Given.{plan_written_given}
use Rattle.planfile.specs.declared.PlanWriteError.{PlanWriteError}
use Rattle.planner.specs.Given.{plan_given}
use Rattle.planner.specs.declared.PlanError.{PlanError}
use Rattle.records.specs.Given.{read_given, written_given}
use Rattle.records.specs.declared.Refusal.{Refusal}
use Rattle.records.specs.declared.WriteError.{WriteError}
use Rattle.search.specs.Given.{search_given}
use Rattle.search.specs.declared.SearchError.{SearchError}
use Rattle.shares.specs.Given.{share_given}
use Rattle.shares.specs.declared.Fragments.{Fragments}
use Rattle.shares.specs.declared.ShareError.{ShareError}
use Rattle.shares.specs.declared.Slots.{Slots}
use Rattle.sheet.specs.Given.{sheet_given}
use Rattle.sheet.specs.declared.SheetError.{SheetError}
use Rattle.site.specs.Given.{clash_given, done_given, fault_given}
use Rattle.site.specs.declared.Fault.{Fault}
use Rattle.tidying.specs.Given.{tidy_given}
use Rattle.tidying.specs.declared.TidyError.{TidyError}
use Rattle.told.specs.Told.{numbered, told, told_renumbered}
use Rattle.told.specs.declared.Answer.{Answer}
use Rattle.told.specs.declared.RenumberedC.{RenumberedC}
use Rattle.wordtable.specs.Given.{form_given}
use Rattle.wordtable.specs.declared.FormError.{FormError}

-- told::give
pub record ToldGive (number : ℕ) (a : ℕ) (b : ℕ) (c : ℕ) (r : Answer) : Type 0 where
  pub answer : r ≡ numbered number a b c

-- told::Answer::from_fault
pub record ToldAnswerFromFault (said : Fault) (r : Answer) : Type 0 where
  pub answer : r ≡ told (fault_given said)

-- told::Answer::from_result_fault
pub record ToldAnswerFromResultFault (said : Result Unit Fault) (r : Answer) : Type 0 where
  pub answer : r ≡ told (done_given said)

-- told::Answer::from_result_bool_fault
pub record ToldAnswerFromResultBoolFault (said : Result Bool Fault) (r : Answer) : Type 0 where
  pub answer : r ≡ told (clash_given said)

-- told::Answer::from_result_load_verdict_fault
pub record ToldAnswerFromResultLoadVerdictFault (said : Result LoadVerdict Fault) (r : Answer) : Type 0 where
  pub answer : r ≡ told (load_given said)

-- told::Answer::from_result_chain_verdict_fault
pub record ToldAnswerFromResultChainVerdictFault (said : Result ChainVerdict Fault) (r : Answer) : Type 0 where
  pub answer : r ≡ told (chain_given said)

-- told::Answer::from_result_class_verdict_fault
pub record ToldAnswerFromResultClassVerdictFault (said : Result ClassVerdict Fault) (r : Answer) : Type 0 where
  pub answer : r ≡ told (class_given said)

-- told::Answer::from_result_least_verdict_fault
pub record ToldAnswerFromResultLeastVerdictFault (said : Result LeastVerdict Fault) (r : Answer) : Type 0 where
  pub answer : r ≡ told (least_given said)

-- told::Answer::from_result_usize_u32_fault
pub record ToldAnswerFromResultUsizeU32Fault (said : Result (ℕ × ℕ) Fault) (r : Answer) : Type 0 where
  pub answer : r ≡ told (heaviest_given said)

-- told::Answer::from_result_plan_error
pub record ToldAnswerFromResultPlanError (said : Result Unit PlanError) (r : Answer) : Type 0 where
  pub answer : r ≡ told (plan_given said)

-- told::Answer::from_result_u64_search_error
pub record ToldAnswerFromResultU64SearchError (said : Result ℕ SearchError) (r : Answer) : Type 0 where
  pub answer : r ≡ told (search_given said)

-- told::Answer::from_result_way_find_error
pub record ToldAnswerFromResultWayFindError (said : Result Way FindError) (r : Answer) : Type 0 where
  pub answer : r ≡ told (find_given said)

-- told::Answer::from_result_over_full_fault
pub record ToldAnswerFromResultOverFullFault (said : Result OverFull Fault) (r : Answer) : Type 0 where
  pub answer : r ≡ told (over_full_given said)

-- told::Answer::from_result_change_error
pub record ToldAnswerFromResultChangeError (said : Result Unit ChangeError) (r : Answer) : Type 0 where
  pub answer : r ≡ told (change_given said)

-- told::Answer::from_result_check_error
pub record ToldAnswerFromResultCheckError (said : Result Unit CheckError) (r : Answer) : Type 0 where
  pub answer : r ≡ told (check_given said)

-- told::Answer::from_result_form_error
pub record ToldAnswerFromResultFormError (said : Result Unit FormError) (r : Answer) : Type 0 where
  pub answer : r ≡ told (form_given said)

-- told::Answer::from_result_usize_mend_error
pub record ToldAnswerFromResultUsizeMendError (said : Result ℕ MendError) (r : Answer) : Type 0 where
  pub answer : r ≡ told (mend_given said)

-- told::Answer::from_result_renumber_error
pub record ToldAnswerFromResultRenumberError (said : Result Unit RenumberError) (r : Answer) : Type 0 where
  pub answer : r ≡ told (renumber_given said)

-- told::Answer::from_result_carry_error
pub record ToldAnswerFromResultCarryError (said : Result Unit CarryError) (r : Answer) : Type 0 where
  pub answer : r ≡ told (carry_given said)

-- told::Answer::from_result_fragments_fragments_slots_share_error
pub record ToldAnswerFromResultFragmentsFragmentsSlotsShareError (said : Result (Fragments × Fragments × Slots) ShareError) (r : Answer) : Type 0 where
  pub answer : r ≡ told (share_given said)

-- told::Answer::from_admit_error
pub record ToldAnswerFromAdmitError (said : AdmitError) (r : Answer) : Type 0 where
  pub answer : r ≡ told (admit_given (Err said))

-- told::Answer::from_result_u32_admit_error
pub record ToldAnswerFromResultU32AdmitError (said : Result ℕ AdmitError) (r : Answer) : Type 0 where
  pub answer : r ≡ told (admit_given said)

-- told::Answer::from_result_u32_beside_error
pub record ToldAnswerFromResultU32BesideError (said : Result ℕ BesideError) (r : Answer) : Type 0 where
  pub answer : r ≡ told (beside_given said)

-- told::Answer::from_result_refusal
pub record ToldAnswerFromResultRefusal (said : Result Unit Refusal) (r : Answer) : Type 0 where
  pub answer : r ≡ told (read_given said)

-- told::Answer::from_result_usize_write_error
pub record ToldAnswerFromResultUsizeWriteError (said : Result ℕ WriteError) (r : Answer) : Type 0 where
  pub answer : r ≡ told (written_given said)

-- told::Answer::from_result_usize_plan_write_error
pub record ToldAnswerFromResultUsizePlanWriteError (said : Result ℕ PlanWriteError) (r : Answer) : Type 0 where
  pub answer : r ≡ told (plan_written_given said)

-- told::Answer::from_result_sheet_error
pub record ToldAnswerFromResultSheetError (said : Result Unit SheetError) (r : Answer) : Type 0 where
  pub answer : r ≡ told (sheet_given said)

-- told::Answer::from_result_usize_tidy_error
pub record ToldAnswerFromResultUsizeTidyError (said : Result ℕ TidyError) (r : Answer) : Type 0 where
  pub answer : r ≡ told (tidy_given said)

-- told::RenumberedC::from_renumbered
pub record ToldRenumberedCFromRenumbered (e : Renumbered) (r : RenumberedC) : Type 0 where
  pub answer : r ≡ told_renumbered e
