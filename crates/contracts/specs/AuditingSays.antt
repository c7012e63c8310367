-- The equalities that the contracts of crate `auditing` state: r is the answer, and x' what a lent x holds afterwards.
-- Made by tools/surface from the source.
use Rattle.std.specs.Prelude.{Result, ℕ, ◌≡◌}
use Rattle.auditing.specs.Form.{form_of}
use Rattle.auditing.specs.Row.{form_phrase}
use Rattle.auditing.specs.Takes.{open_here, takes_of}
use Rattle.auditing.specs.declared.Extent.{Extent}
use Rattle.auditing.specs.declared.Form.{Form}
use Rattle.finder.specs.declared.FindError.{FindError}
use Rattle.finder.specs.declared.Way.{Way}
use Rattle.phrases.specs.declared.Phrase.{Phrase}
use Rattle.site.specs.declared.Site.{Site}

-- auditing::form_of
pub record AuditingFormOf (site : Site) (r : Form) : Type 0 where
  pub answer : r ≡ form_of site

-- auditing::form_phrase
pub record AuditingFormPhrase (first : ℕ) (site : Site) (form : Form) (r : Phrase) : Type 0 where
  pub answer : r ≡ form_phrase first site form

-- auditing::open_here
pub record AuditingOpenHere (site : Site) (r : ℕ) : Type 0 where
  pub answer : r ≡ open_here site

-- auditing::takes_of
pub record AuditingTakesOf (site : Site) (form : Form) (found : Result Way FindError) (r : Extent) : Type 0 where
  pub answer : r ≡ takes_of site form found
