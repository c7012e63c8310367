-- For any arguments one answer and one content of what is lent meet the contract, and no other, in crate `whytext`: by its equalities alone.
-- Made by tools/surface from the source. Assumes nothing.
use Rattle.std.specs.Prelude.{List, Result, refl, ℕ, ◌≡◌}
use Rattle.contracts.specs.WhytextSays.{WhyText}
use Rattle.records.specs.declared.WriteError.{WriteError}
use Rattle.site.specs.declared.Site.{Site}
use Rattle.whytext.specs.Text.{why_out, why_written}

-- whytext::why_text
pub why_text-one : (site : Site) (out : List ℕ)
    → (r : Result ℕ WriteError) × (out' : List ℕ) × (WhyText site out r out')
    × ((q : Result ℕ WriteError) (out'' : List ℕ) → WhyText site out q out'' → (q ≡ r) × (out'' ≡ out'))
why_text-one site out = (
  why_written site out,
  why_out site out,
  record { answer = refl; out_after = refl },
  λ q out'' says. (says.answer, says.out_after),
)
