-- For any arguments one answer and one content of what is lent meet the contract, and no other, in crate `whyrows`: by its equalities alone.
-- Made by tools/surface from the source. Assumes nothing.
use Rattle.std.specs.Prelude.{Result, ltb, refl, ℕ, ◌≡◌}
use Rattle.contracts.specs.WhyrowsSays.{WhyrowsChainPhrase, WhyrowsLeastNumber, WhyrowsNoRow}
use Rattle.judges.specs.declared.ChainVerdict.{ChainVerdict}
use Rattle.judges.specs.declared.LeastVerdict.{LeastVerdict}
use Rattle.laws.specs.Choice.{pick}
use Rattle.phrases.specs.declared.Phrase.{Phrase}
use Rattle.site.specs.declared.Fault.{Fault}
use Rattle.why.specs.Lines.{full_row, gave_up_row}
use Rattle.why.specs.Said.{chain_phrase, least_number}

-- whyrows::chain_phrase
pub whyrows_chain_phrase-one : (reply : Result ChainVerdict Fault)
    → (r : Phrase) × (WhyrowsChainPhrase reply r)
    × ((q : Phrase) → WhyrowsChainPhrase reply q → (q ≡ r))
whyrows_chain_phrase-one reply = (
  chain_phrase reply,
  record { answer = refl },
  λ q says. says.answer,
)

-- whyrows::no_row
pub whyrows_no_row-one : (l : ℕ) (n : ℕ)
    → (r : ℕ) × (WhyrowsNoRow l n r)
    × ((q : ℕ) → WhyrowsNoRow l n q → (q ≡ r))
whyrows_no_row-one l n = (
  pick (ltb n l) full_row gave_up_row,
  record { answer = refl },
  λ q says. says.answer,
)

-- whyrows::least_number
pub whyrows_least_number-one : (reply : Result LeastVerdict Fault)
    → (r : ℕ) × (WhyrowsLeastNumber reply r)
    × ((q : ℕ) → WhyrowsLeastNumber reply q → (q ≡ r))
whyrows_least_number-one reply = (
  least_number reply,
  record { answer = refl },
  λ q says. says.answer,
)
