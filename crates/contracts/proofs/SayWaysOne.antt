-- For any arguments one answer and one content of what is lent meet the contract, and no other, in crate `say_ways`: by its equalities alone.
-- Made by tools/surface from the source. Assumes nothing.
use Rattle.std.specs.Prelude.{refl, ℕ, ◌≡◌}
use Rattle.contracts.specs.SayWaysSays.{SayWaysChangesSentence, SayWaysClashSentence}
use Rattle.say_refusals.specs.declared.Sentence.{Sentence}
use Rattle.site.specs.declared.Site.{Site}
use Rattle.verdicts.specs.Said.{changes_sentence, clash_sentence}

-- say_ways::clash_sentence
pub say_ways_clash_sentence-one : (site : Site) (p : ℕ) (a : ℕ) (c : ℕ)
    → (r : Sentence) × (SayWaysClashSentence site p a c r)
    × ((q : Sentence) → SayWaysClashSentence site p a c q → (q ≡ r))
say_ways_clash_sentence-one site p a c = (
  clash_sentence site p a c,
  record { answer = refl },
  λ q says. says.answer,
)

-- say_ways::changes_sentence
pub say_ways_changes_sentence-one : (number : ℕ)
    → (r : Sentence) × (SayWaysChangesSentence number r)
    × ((q : Sentence) → SayWaysChangesSentence number q → (q ≡ r))
say_ways_changes_sentence-one number = (
  changes_sentence number,
  record { answer = refl },
  λ q says. says.answer,
)
