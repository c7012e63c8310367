-- The equalities that the contracts of crate `oneway` state: r is the answer, and x' what a lent x holds afterwards.
-- Made by tools/surface from the source.
use Rattle.std.specs.Prelude.{Bool, List, Result, ℕ, ◌≡◌}
use Rattle.checker.specs.declared.CheckError.{CheckError}
use Rattle.oneway.specs.TwoWay.{is_valid, two_way, unseen_in}
use Rattle.site.specs.declared.Site.{Site}

-- oneway::two_way
pub record OnewayTwoWay (site : Site) (r : Site) : Type 0 where
  pub answer : r ≡ two_way site

-- oneway::is_valid
pub record OnewayIsValid (reply : Result Unit CheckError) (r : Bool) : Type 0 where
  pub answer : r ≡ is_valid reply

-- oneway::unseen
pub record OnewayUnseen (site : Site) (table : List ℕ) (r : Bool) : Type 0 where
  pub answer : r ≡ unseen_in site table
