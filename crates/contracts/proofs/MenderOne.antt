-- For any arguments one answer and one content of what is lent meet the contract, and no other, in crate `mender`: by its equalities alone.
-- Made by tools/surface from the source. Assumes nothing.
use Rattle.std.specs.Prelude.{List, Result, refl, ℕ, ◌≡◌}
use Rattle.contracts.specs.MenderSays.{Mend, MendErrorFromFault, MendErrorFromShort, MendOnly}
use Rattle.mender.specs.Mend.{list_room, mend_answer, mend_list, mend_table}
use Rattle.mender.specs.declared.MendError.{MendError}
use Rattle.mender.specs.declared.MendError.TheVariants.{NoRoom, Record}
use Rattle.site.specs.declared.Fault.{Fault}
use Rattle.site.specs.declared.Site.{Site}
use Rattle.standing.specs.declared.Short.{Short}

-- mender::MendError::from_fault
pub mend_error_from_fault-one : (f : Fault)
    → (r : MendError) × (MendErrorFromFault f r)
    × ((q : MendError) → MendErrorFromFault f q → (q ≡ r))
mend_error_from_fault-one f = (
  Record f,
  record { answer = refl },
  λ q says. says.answer,
)

-- mender::MendError::from_short
pub mend_error_from_short-one : (s : Short)
    → (r : MendError) × (MendErrorFromShort s r)
    × ((q : MendError) → MendErrorFromShort s q → (q ≡ r))
mend_error_from_short-one s = (
  NoRoom s.0 s.1,
  record { answer = refl },
  λ q says. says.answer,
)

-- mender::mend
pub mend-one : (site : Site) (table : List ℕ) (changes : List ℕ)
    → (r : Result ℕ MendError) × (table' : List ℕ) × (changes' : List ℕ) × (Mend site table changes r table' changes')
    × ((q : Result ℕ MendError) (table'' : List ℕ) (changes'' : List ℕ) → Mend site table changes q table'' changes''
    → (q ≡ r) × (table'' ≡ table') × (changes'' ≡ changes'))
mend-one site table changes = (
  mend_answer site table changes,
  mend_table site table changes,
  mend_list site table changes,
  record { answer = refl; table_after = refl; changes_after = refl },
  λ q table'' changes'' says. (says.answer, says.table_after, says.changes_after),
)

-- mender::mend_only
pub mend_only-one : (site : Site) (table : List ℕ)
    → (r : Result ℕ MendError) × (table' : List ℕ) × (MendOnly site table r table')
    × ((q : Result ℕ MendError) (table'' : List ℕ) → MendOnly site table q table'' → (q ≡ r) × (table'' ≡ table'))
mend_only-one site table = (
  mend_answer site table (list_room site),
  mend_table site table (list_room site),
  record { answer = refl; table_after = refl },
  λ q table'' says. (says.answer, says.table_after),
)
