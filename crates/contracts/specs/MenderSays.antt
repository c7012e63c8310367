-- The equalities that the contracts of crate `mender` state: r is the answer, and x' what a lent x holds afterwards.
-- Made by tools/surface from the source.
use Rattle.std.specs.Prelude.{List, Result, ℕ, ◌≡◌}
use Rattle.mender.specs.Mend.{list_room, mend_answer, mend_list, mend_table}
use Rattle.mender.specs.declared.MendError.{MendError}
use Rattle.mender.specs.declared.MendError.TheVariants.{NoRoom, Record}
use Rattle.site.specs.declared.Fault.{Fault}
use Rattle.site.specs.declared.Site.{Site}
use Rattle.standing.specs.declared.Short.{Short}

-- mender::MendError::from_fault
pub record MendErrorFromFault (f : Fault) (r : MendError) : Type 0 where
  pub answer : r ≡ Record f

-- mender::MendError::from_short
pub record MendErrorFromShort (s : Short) (r : MendError) : Type 0 where
  pub answer : r ≡ NoRoom s.0 s.1

-- mender::mend
pub record Mend (site : Site) (table : List ℕ) (changes : List ℕ) (r : Result ℕ MendError) (table' : List ℕ) (changes' : List ℕ) : Type 0 where
  pub answer : r ≡ mend_answer site table changes
  pub table_after : table' ≡ mend_table site table changes
  pub changes_after : changes' ≡ mend_list site table changes

-- mender::mend_only
pub record MendOnly (site : Site) (table : List ℕ) (r : Result ℕ MendError) (table' : List ℕ) : Type 0 where
  pub answer : r ≡ mend_answer site table (list_room site)
  pub table_after : table' ≡ mend_table site table (list_room site)
