-- The equalities that the contracts of crate `site` state: r is the answer, and x' what a lent x holds afterwards.
-- Made by tools/surface from the source.
use Rattle.std.specs.Prelude.{Bool, List, Result, ℕ, ◌≡◌}
use Rattle.site.specs.Edit.{clear_reach_of, set_load_of, set_reach_of}
use Rattle.site.specs.Reach.{clash_answer, clash_rows}
use Rattle.site.specs.Record.{fault_of, rule_ok, size_ok, up_to, zero_site}
use Rattle.site.specs.declared.Edited.{Edited}
use Rattle.site.specs.declared.Fault.{Fault}
use Rattle.site.specs.declared.Site.{Site}

-- site::within
pub record Within (x : ℕ) (most : ℕ) (r : Bool) : Type 0 where
  pub answer : r ≡ up_to most x

-- site::size_ok
pub record SizeOk (cells : ℕ) (slots : ℕ) (channels : ℕ) (r : Bool) : Type 0 where
  pub answer : r ≡ size_ok cells slots channels

-- site::rule_ok
pub record RuleOk (rule : ℕ) (r : Bool) : Type 0 where
  pub answer : r ≡ rule_ok rule

-- site::Site::zeros
pub record SiteZeros (r : Site) : Type 0 where
  pub answer : r ≡ zero_site

-- site::Site::accepted
pub record SiteAccepted (self : Site) (r : Result Unit Fault) : Type 0 where
  pub answer : r ≡ fault_of self

-- site::Site::clash_rows
pub record SiteClashRows (self : Site) (r : List ℕ) : Type 0 where
  pub answer : r ≡ clash_rows self

-- site::Site::clash
pub record SiteClash (self : Site) (a : ℕ) (b : ℕ) (r : Result Bool Fault) : Type 0 where
  pub answer : r ≡ clash_answer self a b

-- site::Site::set_load
pub record SiteSetLoad (self : Site) (cell : ℕ) (load : ℕ) (r : Edited) : Type 0 where
  pub answer : r ≡ set_load_of self cell load

-- site::Site::set_reach
pub record SiteSetReach (self : Site) (from : ℕ) (to : ℕ) (r : Edited) : Type 0 where
  pub answer : r ≡ set_reach_of self from to

-- site::Site::clear_reach
pub record SiteClearReach (self : Site) (from : ℕ) (to : ℕ) (r : Edited) : Type 0 where
  pub answer : r ≡ clear_reach_of self from to
