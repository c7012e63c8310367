-- The equalities that the contracts of crate `whyrows` state: r is the answer, and x' what a lent x holds afterwards.
-- Made by tools/surface from the source.
use Rattle.std.specs.Prelude.{Result, ltb, ℕ, ◌≡◌}
use Rattle.judges.specs.declared.ChainVerdict.{ChainVerdict}
use Rattle.judges.specs.declared.LeastVerdict.{LeastVerdict}
use Rattle.laws.specs.Choice.{pick}
use Rattle.phrases.specs.declared.Phrase.{Phrase}
use Rattle.site.specs.declared.Fault.{Fault}
use Rattle.why.specs.Lines.{full_row, gave_up_row}
use Rattle.why.specs.Said.{chain_phrase, least_number}

-- whyrows::chain_phrase
pub record WhyrowsChainPhrase (reply : Result ChainVerdict Fault) (r : Phrase) : Type 0 where
  pub answer : r ≡ chain_phrase reply

-- whyrows::no_row
pub record WhyrowsNoRow (l : ℕ) (n : ℕ) (r : ℕ) : Type 0 where
  pub answer : r ≡ pick (ltb n l) full_row gave_up_row

-- whyrows::least_number
pub record WhyrowsLeastNumber (reply : Result LeastVerdict Fault) (r : ℕ) : Type 0 where
  pub answer : r ≡ least_number reply
