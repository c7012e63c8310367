-- For any arguments one answer and one content of what is lent meet the contract, and no other, in crate `wordtable`: by its equalities alone.
-- Made by tools/surface from the source. Assumes nothing.
use Rattle.std.specs.Prelude.{List, Result, refl, ℕ, ◌≡◌}
use Rattle.checker.specs.declared.CheckError.{CheckError}
use Rattle.contracts.specs.WordtableSays.{CheckWords, FormErrorFromFault, PlanWords, ToBytes, ToWords}
use Rattle.planner.specs.declared.PlanError.{PlanError}
use Rattle.site.specs.declared.Fault.{Fault}
use Rattle.site.specs.declared.Site.{Site}
use Rattle.wordtable.specs.Check.{check_words_answer}
use Rattle.wordtable.specs.Forms.{form_answer, to_bytes, to_words}
use Rattle.wordtable.specs.Plan.{plan_words, plan_words_answer}
use Rattle.wordtable.specs.declared.FormError.{FormError}
use Rattle.wordtable.specs.declared.FormError.TheVariants.{Record}

-- wordtable::FormError::from_fault
pub form_error_from_fault-one : (f : Fault)
    → (r : FormError) × (FormErrorFromFault f r)
    × ((q : FormError) → FormErrorFromFault f q → (q ≡ r))
form_error_from_fault-one f = (
  Record f,
  record { answer = refl },
  λ q says. says.answer,
)

-- wordtable::plan_words
pub plan_words-one : (site : Site) (words : List ℕ)
    → (r : Result Unit PlanError) × (words' : List ℕ) × (PlanWords site words r words')
    × ((q : Result Unit PlanError) (words'' : List ℕ) → PlanWords site words q words'' → (q ≡ r) × (words'' ≡ words'))
plan_words-one site words = (
  plan_words_answer site words,
  plan_words site words,
  record { answer = refl; words_after = refl },
  λ q words'' says. (says.answer, says.words_after),
)

-- wordtable::check_words
pub check_words-one : (site : Site) (words : List ℕ)
    → (r : Result Unit CheckError) × (CheckWords site words r)
    × ((q : Result Unit CheckError) → CheckWords site words q → (q ≡ r))
check_words-one site words = (
  check_words_answer site words,
  record { answer = refl },
  λ q says. says.answer,
)

-- wordtable::to_words
pub to_words-one : (site : Site) (table : List ℕ) (words : List ℕ)
    → (r : Result Unit FormError) × (words' : List ℕ) × (ToWords site table words r words')
    × ((q : Result Unit FormError) (words'' : List ℕ) → ToWords site table words q words'' → (q ≡ r) × (words'' ≡ words'))
to_words-one site table words = (
  form_answer site table words,
  to_words site table words,
  record { answer = refl; words_after = refl },
  λ q words'' says. (says.answer, says.words_after),
)

-- wordtable::to_bytes
pub to_bytes-one : (site : Site) (words : List ℕ) (table : List ℕ)
    → (r : Result Unit FormError) × (table' : List ℕ) × (ToBytes site words table r table')
    × ((q : Result Unit FormError) (table'' : List ℕ) → ToBytes site words table q table'' → (q ≡ r) × (table'' ≡ table'))
to_bytes-one site words table = (
  form_answer site table words,
  to_bytes site words table,
  record { answer = refl; table_after = refl },
  λ q table'' says. (says.answer, says.table_after),
)
