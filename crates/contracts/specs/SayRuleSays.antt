-- The equalities that the contracts of crate `say_rule` state: r is the answer, and x' what a lent x holds afterwards.
-- Made by tools/surface from the source.
use Rattle.std.specs.Prelude.{List, length, ℕ, ◌+◌, ◌≡◌}
use Rattle.say_rule.specs.Said.{rule_said, third_of, thirds_said}
use Rattle.site.specs.declared.Site.{Site}
use Rattle.std.proofs.lemmas.List.Edits.{sets}

-- say_rule::third_of
pub record SayRuleThirdOf (reach : List ℕ) (a : ℕ) (b : ℕ) (r : ℕ) : Type 0 where
  pub answer : r ≡ third_of reach a b

-- say_rule::put_rule
pub record SayRulePutRule (out : List ℕ) (at : ℕ) (site : Site) (r : ℕ) (out' : List ℕ) : Type 0 where
  pub answer : r ≡ at + length (rule_said site)
  pub out_after : out' ≡ sets out at (rule_said site)

-- say_rule::put_thirds
pub record SayRulePutThirds (out : List ℕ) (at : ℕ) (site : Site) (a : ℕ) (r : ℕ) (out' : List ℕ) : Type 0 where
  pub answer : r ≡ at + length (thirds_said site a)
  pub out_after : out' ≡ sets out at (thirds_said site a)
