-- For any arguments one answer and one content of what is lent meet the contract, and no other, in crate `admission`: by its equalities alone.
-- Made by tools/surface from the source. Assumes nothing.
use Rattle.std.specs.Prelude.{List, Result, get_or, refl, ℕ, ◌≡◌}
use Rattle.admission.specs.Admit.{admit_answer, answer_in, share_in}
use Rattle.admission.specs.Beside.{beside_answer, beside_in}
use Rattle.admission.specs.declared.AdmitError.{AdmitError}
use Rattle.admission.specs.declared.AdmitError.TheVariants.{Record}
use Rattle.admission.specs.declared.BesideError.{BesideError}
use Rattle.admission.specs.declared.BesideError.TheVariants.{Admit}
use Rattle.contracts.specs.AdmissionSays.{AdmitBeside, AdmitCall, AdmitErrorFromFault, BesideErrorFromAdmitError, BesideErrorFromFault, Decide, DecideBeside}
use Rattle.contracts.specs.AdmissionSays.{ShareIn}
use Rattle.flowlist.specs.List.{zero_flow}
use Rattle.flowlist.specs.declared.Flow.{Flow}
use Rattle.flowlist.specs.declared.FlowList.{FlowList}
use Rattle.shares.specs.declared.Fragments.{Fragments}
use Rattle.shares.specs.declared.ShareError.{ShareError}
use Rattle.shares.specs.declared.Slots.{Slots}
use Rattle.site.specs.declared.Fault.{Fault}
use Rattle.site.specs.declared.Site.{Site}

-- admission::AdmitError::from_fault
pub admit_error_from_fault-one : (f : Fault)
    → (r : AdmitError) × (AdmitErrorFromFault f r)
    × ((q : AdmitError) → AdmitErrorFromFault f q → (q ≡ r))
admit_error_from_fault-one f = (
  Record f,
  record { answer = refl },
  λ q says. says.answer,
)

-- admission::BesideError::from_fault
pub beside_error_from_fault-one : (f : Fault)
    → (r : BesideError) × (BesideErrorFromFault f r)
    × ((q : BesideError) → BesideErrorFromFault f q → (q ≡ r))
beside_error_from_fault-one f = (
  Admit (Record f),
  record { answer = refl },
  λ q says. says.answer,
)

-- admission::BesideError::from_admit_error
pub beside_error_from_admit_error-one : (x : AdmitError)
    → (r : BesideError) × (BesideErrorFromAdmitError x r)
    × ((q : BesideError) → BesideErrorFromAdmitError x q → (q ≡ r))
beside_error_from_admit_error-one x = (
  Admit x,
  record { answer = refl },
  λ q says. says.answer,
)

-- admission::share_in
pub share_in-one : (slots : ℕ) (f : Flow)
    → (r : Result (Fragments × Fragments × Slots) ShareError) × (ShareIn slots f r)
    × ((q : Result (Fragments × Fragments × Slots) ShareError) → ShareIn slots f q → (q ≡ r))
share_in-one slots f = (
  share_in slots f,
  record { answer = refl },
  λ q says. says.answer,
)

-- admission::decide
pub decide-one : (site : Site) (l : FlowList) (count : ℕ)
    → (r : Result ℕ AdmitError) × (Decide site l count r)
    × ((q : Result ℕ AdmitError) → Decide site l count q → (q ≡ r))
decide-one site l count = (
  answer_in site (λ k. get_or l.list k zero_flow) count,
  record { answer = refl },
  λ q says. says.answer,
)

-- admission::decide_beside
pub decide_beside-one : (site : Site) (l : FlowList) (count : ℕ)
    → (r : Result ℕ BesideError) × (DecideBeside site l count r)
    × ((q : Result ℕ BesideError) → DecideBeside site l count q → (q ≡ r))
decide_beside-one site l count = (
  beside_in site (λ k. get_or l.list k zero_flow) count,
  record { answer = refl },
  λ q says. says.answer,
)

-- admission::admit
pub admit-one : (site : Site) (flows : List Flow)
    → (r : Result ℕ AdmitError) × (AdmitCall site flows r)
    × ((q : Result ℕ AdmitError) → AdmitCall site flows q → (q ≡ r))
admit-one site flows = (
  admit_answer site flows,
  record { answer = refl },
  λ q says. says.answer,
)

-- admission::admit_beside
pub admit_beside-one : (site : Site) (flows : List Flow)
    → (r : Result ℕ BesideError) × (AdmitBeside site flows r)
    × ((q : Result ℕ BesideError) → AdmitBeside site flows q → (q ≡ r))
admit_beside-one site flows = (
  beside_answer site flows,
  record { answer = refl },
  λ q says. says.answer,
)
