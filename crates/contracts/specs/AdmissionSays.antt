-- The equalities that the contracts of crate `admission` state: r is the answer, and x' what a lent x holds afterwards.
-- Made by tools/surface from the source.
use Rattle.std.specs.Prelude.{List, Result, get_or, ℕ, ◌≡◌}
use Rattle.admission.specs.Admit.{admit_answer, answer_in, share_in}
use Rattle.admission.specs.Beside.{beside_answer, beside_in}
use Rattle.admission.specs.declared.AdmitError.{AdmitError}
use Rattle.admission.specs.declared.AdmitError.TheVariants.{Record}
use Rattle.admission.specs.declared.BesideError.{BesideError}
use Rattle.admission.specs.declared.BesideError.TheVariants.{Admit}
use Rattle.flowlist.specs.List.{zero_flow}
use Rattle.flowlist.specs.declared.Flow.{Flow}
use Rattle.flowlist.specs.declared.FlowList.{FlowList}
use Rattle.shares.specs.declared.Fragments.{Fragments}
use Rattle.shares.specs.declared.ShareError.{ShareError}
use Rattle.shares.specs.declared.Slots.{Slots}
use Rattle.site.specs.declared.Fault.{Fault}
use Rattle.site.specs.declared.Site.{Site}

-- admission::AdmitError::from_fault
pub record AdmitErrorFromFault (f : Fault) (r : AdmitError) : Type 0 where
  pub answer : r ≡ Record f

-- admission::BesideError::from_fault
pub record BesideErrorFromFault (f : Fault) (r : BesideError) : Type 0 where
  pub answer : r ≡ Admit (Record f)

-- admission::BesideError::from_admit_error
pub record BesideErrorFromAdmitError (x : AdmitError) (r : BesideError) : Type 0 where
  pub answer : r ≡ Admit x

-- admission::share_in
pub record ShareIn (slots : ℕ) (f : Flow) (r : Result (Fragments × Fragments × Slots) ShareError) : Type 0 where
  pub answer : r ≡ share_in slots f

-- admission::decide
pub record Decide (site : Site) (l : FlowList) (count : ℕ) (r : Result ℕ AdmitError) : Type 0 where
  pub answer : r ≡ answer_in site (λ k. get_or l.list k zero_flow) count

-- admission::decide_beside
pub record DecideBeside (site : Site) (l : FlowList) (count : ℕ) (r : Result ℕ BesideError) : Type 0 where
  pub answer : r ≡ beside_in site (λ k. get_or l.list k zero_flow) count

-- admission::admit
pub record AdmitCall (site : Site) (flows : List Flow) (r : Result ℕ AdmitError) : Type 0 where
  pub answer : r ≡ admit_answer site flows

-- admission::admit_beside
pub record AdmitBeside (site : Site) (flows : List Flow) (r : Result ℕ BesideError) : Type 0 where
  pub answer : r ≡ beside_answer site flows
