-- For any arguments one answer and one content of what is lent meet the contract, and no other, in crate `sitehead`: by its equalities alone.
-- Made by tools/surface from the source. Assumes nothing.
use Rattle.std.specs.Prelude.{List, Result, refl, ℕ, ◌≡◌}
use Rattle.contracts.specs.SiteheadSays.{SiteheadHeadLen, SiteheadPutSiteHead, SiteheadRuleOf, SiteheadSiteHead}
use Rattle.records.specs.declared.Refusal.{Refusal}
use Rattle.sitehead.specs.Head.{head_length, rule_of_head, site_head, site_head_answer}
use Rattle.std.proofs.lemmas.List.Edits.{sets}

-- sitehead::site_head
pub sitehead_site_head-one : (s : List ℕ)
    → (r : Result Unit Refusal) × (SiteheadSiteHead s r)
    × ((q : Result Unit Refusal) → SiteheadSiteHead s q → (q ≡ r))
sitehead_site_head-one s = (
  site_head_answer s,
  record { answer = refl },
  λ q says. says.answer,
)

-- sitehead::rule_of
pub sitehead_rule_of-one : (s : List ℕ)
    → (r : ℕ) × (SiteheadRuleOf s r)
    × ((q : ℕ) → SiteheadRuleOf s q → (q ≡ r))
sitehead_rule_of-one s = (
  rule_of_head s,
  record { answer = refl },
  λ q says. says.answer,
)

-- sitehead::head_len
pub sitehead_head_len-one : (rule : ℕ)
    → (r : ℕ) × (SiteheadHeadLen rule r)
    × ((q : ℕ) → SiteheadHeadLen rule q → (q ≡ r))
sitehead_head_len-one rule = (
  head_length rule,
  record { answer = refl },
  λ q says. says.answer,
)

-- sitehead::put_site_head
pub sitehead_put_site_head-one : (out : List ℕ) (cells : ℕ) (slots : ℕ) (channels : ℕ) (rule : ℕ)
    → (out' : List ℕ) × (SiteheadPutSiteHead out cells slots channels rule out')
    × ((out'' : List ℕ) → SiteheadPutSiteHead out cells slots channels rule out'' → (out'' ≡ out'))
sitehead_put_site_head-one out cells slots channels rule = (
  sets out 0 (site_head rule cells slots channels),
  record { out_after = refl },
  λ out'' says. says.out_after,
)
