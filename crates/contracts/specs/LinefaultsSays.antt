-- The equalities that the contracts of crate `linefaults` state: r is the answer, and x' what a lent x holds afterwards.
-- Made by tools/surface from the source.
use Rattle.std.specs.Prelude.{List, Option, ℕ, ◌≡◌}
use Rattle.linefaults.specs.Fault.{fault_of_line}
use Rattle.linefaults.specs.declared.LineFault.{LineFault}

-- linefaults::fault_of_line
pub record LinefaultsFaultOfLine (sheet : List ℕ) (line : ℕ) (r : Option LineFault) : Type 0 where
  pub answer : r ≡ fault_of_line sheet line
