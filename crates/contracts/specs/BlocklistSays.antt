-- The equalities that the contracts of crate `blocklist` state: r is the answer, and x' what a lent x holds afterwards.
-- Made by tools/surface from the source.
use Rattle.std.specs.Prelude.{List, ℕ, ◌≡◌}
use Rattle.blocklist.specs.Read.{read_list}
use Rattle.blocklist.specs.declared.ListRead.{ListRead}

-- blocklist::read_list
pub record BlocklistReadList (bytes : List ℕ) (slots : ℕ) (channels : ℕ) (r : ListRead) : Type 0 where
  pub answer : r ≡ read_list bytes slots channels
