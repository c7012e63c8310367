-- The equalities that the contracts of crate `say_ways` state: r is the answer, and x' what a lent x holds afterwards.
-- Made by tools/surface from the source.
use Rattle.std.specs.Prelude.{ℕ, ◌≡◌}
use Rattle.say_refusals.specs.declared.Sentence.{Sentence}
use Rattle.site.specs.declared.Site.{Site}
use Rattle.verdicts.specs.Said.{changes_sentence, clash_sentence}

-- say_ways::clash_sentence
pub record SayWaysClashSentence (site : Site) (p : ℕ) (a : ℕ) (c : ℕ) (r : Sentence) : Type 0 where
  pub answer : r ≡ clash_sentence site p a c

-- say_ways::changes_sentence
pub record SayWaysChangesSentence (number : ℕ) (r : Sentence) : Type 0 where
  pub answer : r ≡ changes_sentence number
