-- The equalities that the contracts of crate `sitehead` state: r is the answer, and x' what a lent x holds afterwards.
-- Made by tools/surface from the source.
use Rattle.std.specs.Prelude.{List, Result, ℕ, ◌≡◌}
use Rattle.records.specs.declared.Refusal.{Refusal}
use Rattle.sitehead.specs.Head.{head_length, rule_of_head, site_head, site_head_answer}
use Rattle.std.proofs.lemmas.List.Edits.{sets}

-- sitehead::site_head
pub record SiteheadSiteHead (s : List ℕ) (r : Result Unit Refusal) : Type 0 where
  pub answer : r ≡ site_head_answer s

-- sitehead::rule_of
pub record SiteheadRuleOf (s : List ℕ) (r : ℕ) : Type 0 where
  pub answer : r ≡ rule_of_head s

-- sitehead::head_len
pub record SiteheadHeadLen (rule : ℕ) (r : ℕ) : Type 0 where
  pub answer : r ≡ head_length rule

-- sitehead::put_site_head
pub record SiteheadPutSiteHead (out : List ℕ) (cells : ℕ) (slots : ℕ) (channels : ℕ) (rule : ℕ) (out' : List ℕ) : Type 0 where
  pub out_after : out' ≡ sets out 0 (site_head rule cells slots channels)
