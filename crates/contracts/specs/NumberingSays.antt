-- The equalities that the contracts of crate `numbering` state: r is the answer, and x' what a lent x holds afterwards.
-- Made by tools/surface from the source.
use Rattle.std.specs.Prelude.{List, Result, ℕ, ◌≡◌}
use Rattle.numbering.specs.Carried.{carry_answer, carry_refused, carry_table}
use Rattle.numbering.specs.Renumber.{renumber_of}
use Rattle.numbering.specs.declared.CarryError.{CarryError}
use Rattle.numbering.specs.declared.RenumberError.{RenumberError}
use Rattle.numbering.specs.declared.RenumberError.TheVariants.{Record}
use Rattle.numbering.specs.declared.Renumbered.{Renumbered}
use Rattle.site.specs.declared.Fault.{Fault}
use Rattle.site.specs.declared.Site.{Site}

-- numbering::RenumberError::from_fault
pub record RenumberErrorFromFault (f : Fault) (r : RenumberError) : Type 0 where
  pub answer : r ≡ Record f

-- numbering::CarryError::from_renumber_error
pub record CarryErrorFromRenumberError (x : RenumberError) (r : CarryError) : Type 0 where
  pub answer : r ≡ carry_refused x

-- numbering::renumber
pub record Renumber (site : Site) (r : Renumbered) : Type 0 where
  pub answer : r ≡ renumber_of site

-- numbering::carry
pub record Carry (site : Site) (from : List ℕ) (to : List ℕ) (r : Result Unit CarryError) (to' : List ℕ) : Type 0 where
  pub answer : r ≡ carry_answer site from to
  pub to_after : to' ≡ carry_table site from to
