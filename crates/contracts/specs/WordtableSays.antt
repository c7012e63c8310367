-- The equalities that the contracts of crate `wordtable` state: r is the answer, and x' what a lent x holds afterwards.
-- Made by tools/surface from the source.
use Rattle.std.specs.Prelude.{List, Result, ℕ, ◌≡◌}
use Rattle.checker.specs.declared.CheckError.{CheckError}
use Rattle.planner.specs.declared.PlanError.{PlanError}
use Rattle.site.specs.declared.Fault.{Fault}
use Rattle.site.specs.declared.Site.{Site}
use Rattle.wordtable.specs.Check.{check_words_answer}
use Rattle.wordtable.specs.Forms.{form_answer, to_bytes, to_words}
use Rattle.wordtable.specs.Plan.{plan_words, plan_words_answer}
use Rattle.wordtable.specs.declared.FormError.{FormError}
use Rattle.wordtable.specs.declared.FormError.TheVariants.{Record}

-- wordtable::FormError::from_fault
pub record FormErrorFromFault (f : Fault) (r : FormError) : Type 0 where
  pub answer : r ≡ Record f

-- wordtable::plan_words
pub record PlanWords (site : Site) (words : List ℕ) (r : Result Unit PlanError) (words' : List ℕ) : Type 0 where
  pub answer : r ≡ plan_words_answer site words
  pub words_after : words' ≡ plan_words site words

-- wordtable::check_words
pub record CheckWords (site : Site) (words : List ℕ) (r : Result Unit CheckError) : Type 0 where
  pub answer : r ≡ check_words_answer site words

-- wordtable::to_words
pub record ToWords (site : Site) (table : List ℕ) (words : List ℕ) (r : Result Unit FormError) (words' : List ℕ) : Type 0 where
  pub answer : r ≡ form_answer site table words
  pub words_after : words' ≡ to_words site table words

-- wordtable::to_bytes
pub record ToBytes (site : Site) (words : List ℕ) (table : List ℕ) (r : Result Unit FormError) (table' : List ℕ) : Type 0 where
  pub answer : r ≡ form_answer site table words
  pub table_after : table' ≡ to_bytes site words table
