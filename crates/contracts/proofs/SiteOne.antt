-- For any arguments one answer and one content of what is lent meet the contract, and no other, in crate `site`: by its equalities alone.
-- Made by tools/surface from the source. Assumes nothing.
use Rattle.std.specs.Prelude.{Bool, List, Result, refl, ℕ, ◌≡◌}
use Rattle.contracts.specs.SiteSays.{RuleOk, SiteAccepted, SiteClash, SiteClashRows, SiteClearReach, SiteSetLoad, SiteSetReach, SiteZeros, SizeOk, Within}
use Rattle.site.specs.Edit.{clear_reach_of, set_load_of, set_reach_of}
use Rattle.site.specs.Reach.{clash_answer, clash_rows}
use Rattle.site.specs.Record.{fault_of, rule_ok, size_ok, up_to, zero_site}
use Rattle.site.specs.declared.Edited.{Edited}
use Rattle.site.specs.declared.Fault.{Fault}
use Rattle.site.specs.declared.Site.{Site}

-- site::within
pub within-one : (x : ℕ) (most : ℕ)
    → (r : Bool) × (Within x most r)
    × ((q : Bool) → Within x most q → (q ≡ r))
within-one x most = (
  up_to most x,
  record { answer = refl },
  λ q says. says.answer,
)

-- site::size_ok
pub size_ok-one : (cells : ℕ) (slots : ℕ) (channels : ℕ)
    → (r : Bool) × (SizeOk cells slots channels r)
    × ((q : Bool) → SizeOk cells slots channels q → (q ≡ r))
size_ok-one cells slots channels = (
  size_ok cells slots channels,
  record { answer = refl },
  λ q says. says.answer,
)

-- site::rule_ok
pub rule_ok-one : (rule : ℕ)
    → (r : Bool) × (RuleOk rule r)
    × ((q : Bool) → RuleOk rule q → (q ≡ r))
rule_ok-one rule = (
  rule_ok rule,
  record { answer = refl },
  λ q says. says.answer,
)

-- site::Site::zeros
pub site_zeros-one : (r : Site) × (SiteZeros r)
    × ((q : Site) → SiteZeros q → (q ≡ r))
site_zeros-one = (
  zero_site,
  record { answer = refl },
  λ q says. says.answer,
)

-- site::Site::accepted
pub site_accepted-one : (self : Site)
    → (r : Result Unit Fault) × (SiteAccepted self r)
    × ((q : Result Unit Fault) → SiteAccepted self q → (q ≡ r))
site_accepted-one self = (
  fault_of self,
  record { answer = refl },
  λ q says. says.answer,
)

-- site::Site::clash_rows
pub site_clash_rows-one : (self : Site)
    → (r : List ℕ) × (SiteClashRows self r)
    × ((q : List ℕ) → SiteClashRows self q → (q ≡ r))
site_clash_rows-one self = (
  clash_rows self,
  record { answer = refl },
  λ q says. says.answer,
)

-- site::Site::clash
pub site_clash-one : (self : Site) (a : ℕ) (b : ℕ)
    → (r : Result Bool Fault) × (SiteClash self a b r)
    × ((q : Result Bool Fault) → SiteClash self a b q → (q ≡ r))
site_clash-one self a b = (
  clash_answer self a b,
  record { answer = refl },
  λ q says. says.answer,
)

-- site::Site::set_load
pub site_set_load-one : (self : Site) (cell : ℕ) (load : ℕ)
    → (r : Edited) × (SiteSetLoad self cell load r)
    × ((q : Edited) → SiteSetLoad self cell load q → (q ≡ r))
site_set_load-one self cell load = (
  set_load_of self cell load,
  record { answer = refl },
  λ q says. says.answer,
)

-- site::Site::set_reach
pub site_set_reach-one : (self : Site) (from : ℕ) (to : ℕ)
    → (r : Edited) × (SiteSetReach self from to r)
    × ((q : Edited) → SiteSetReach self from to q → (q ≡ r))
site_set_reach-one self from to = (
  set_reach_of self from to,
  record { answer = refl },
  λ q says. says.answer,
)

-- site::Site::clear_reach
pub site_clear_reach-one : (self : Site) (from : ℕ) (to : ℕ)
    → (r : Edited) × (SiteClearReach self from to r)
    × ((q : Edited) → SiteClearReach self from to q → (q ≡ r))
site_clear_reach-one self from to = (
  clear_reach_of self from to,
  record { answer = refl },
  λ q says. says.answer,
)
