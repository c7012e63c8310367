-- For any arguments one answer and one content of what is lent meet the contract, and no other, in crate `auditing`: by its equalities alone.
-- Made by tools/surface from the source. Assumes nothing.
use Rattle.std.specs.Prelude.{Result, refl, ℕ, ◌≡◌}
use Rattle.auditing.specs.Form.{form_of}
use Rattle.auditing.specs.Row.{form_phrase}
use Rattle.auditing.specs.Takes.{open_here, takes_of}
use Rattle.auditing.specs.declared.Extent.{Extent}
use Rattle.auditing.specs.declared.Form.{Form}
use Rattle.contracts.specs.AuditingSays.{AuditingFormOf, AuditingFormPhrase, AuditingOpenHere, AuditingTakesOf}
use Rattle.finder.specs.declared.FindError.{FindError}
use Rattle.finder.specs.declared.Way.{Way}
use Rattle.phrases.specs.declared.Phrase.{Phrase}
use Rattle.site.specs.declared.Site.{Site}

-- auditing::form_of
pub auditing_form_of-one : (site : Site)
    → (r : Form) × (AuditingFormOf site r)
    × ((q : Form) → AuditingFormOf site q → (q ≡ r))
auditing_form_of-one site = (
  form_of site,
  record { answer = refl },
  λ q says. says.answer,
)

-- auditing::form_phrase
pub auditing_form_phrase-one : (first : ℕ) (site : Site) (form : Form)
    → (r : Phrase) × (AuditingFormPhrase first site form r)
    × ((q : Phrase) → AuditingFormPhrase first site form q → (q ≡ r))
auditing_form_phrase-one first site form = (
  form_phrase first site form,
  record { answer = refl },
  λ q says. says.answer,
)

-- auditing::open_here
pub auditing_open_here-one : (site : Site)
    → (r : ℕ) × (AuditingOpenHere site r)
    × ((q : ℕ) → AuditingOpenHere site q → (q ≡ r))
auditing_open_here-one site = (
  open_here site,
  record { answer = refl },
  λ q says. says.answer,
)

-- auditing::takes_of
pub auditing_takes_of-one : (site : Site) (form : Form) (found : Result Way FindError)
    → (r : Extent) × (AuditingTakesOf site form found r)
    × ((q : Extent) → AuditingTakesOf site form found q → (q ≡ r))
auditing_takes_of-one site form found = (
  takes_of site form found,
  record { answer = refl },
  λ q says. says.answer,
)
