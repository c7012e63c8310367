-- For any arguments one answer and one content of what is lent meet the contract, and no other, in crate `say_rule`: by its equalities alone.
-- Made by tools/surface from the source. Assumes nothing.
use Rattle.std.specs.Prelude.{List, length, refl, ℕ, ◌+◌, ◌≡◌}
use Rattle.contracts.specs.SayRuleSays.{SayRulePutRule, SayRulePutThirds, SayRuleThirdOf}
use Rattle.say_rule.specs.Said.{rule_said, third_of, thirds_said}
use Rattle.site.specs.declared.Site.{Site}
use Rattle.std.proofs.lemmas.List.Edits.{sets}

-- say_rule::third_of
pub say_rule_third_of-one : (reach : List ℕ) (a : ℕ) (b : ℕ)
    → (r : ℕ) × (SayRuleThirdOf reach a b r)
    × ((q : ℕ) → SayRuleThirdOf reach a b q → (q ≡ r))
say_rule_third_of-one reach a b = (
  third_of reach a b,
  record { answer = refl },
  λ q says. says.answer,
)

-- say_rule::put_rule
pub say_rule_put_rule-one : (out : List ℕ) (at : ℕ) (site : Site)
    → (r : ℕ) × (out' : List ℕ) × (SayRulePutRule out at site r out')
    × ((q : ℕ) (out'' : List ℕ) → SayRulePutRule out at site q out'' → (q ≡ r) × (out'' ≡ out'))
say_rule_put_rule-one out at site = (
  at + length (rule_said site),
  sets out at (rule_said site),
  record { answer = refl; out_after = refl },
  λ q out'' says. (says.answer, says.out_after),
)

-- say_rule::put_thirds
pub say_rule_put_thirds-one : (out : List ℕ) (at : ℕ) (site : Site) (a : ℕ)
    → (r : ℕ) × (out' : List ℕ) × (SayRulePutThirds out at site a r out')
    × ((q : ℕ) (out'' : List ℕ) → SayRulePutThirds out at site a q out'' → (q ≡ r) × (out'' ≡ out'))
say_rule_put_thirds-one out at site a = (
  at + length (thirds_said site a),
  sets out at (thirds_said site a),
  record { answer = refl; out_after = refl },
  λ q out'' says. (says.answer, says.out_after),
)
