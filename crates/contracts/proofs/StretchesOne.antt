-- For any arguments one answer and one content of what is lent meet the contract, and no other, in crate `stretches`: by its equalities alone.
-- Made by tools/surface from the source. Assumes nothing.
use Rattle.std.specs.Prelude.{List, Result, drop, refl, ℕ, ◌++◌, ◌≡◌}
use Rattle.contracts.specs.StretchesSays.{StretchesPlanStretches}
use Rattle.planner.specs.Plan.{answer_of}
use Rattle.planner.specs.declared.PlanError.{PlanError}
use Rattle.site.specs.Reach.{is_open, net_by}
use Rattle.theory.specs.Greedy.{greedy}
use Rattle.words.specs.Words.{out_words}

-- stretches::plan_stretches
pub stretches_plan_stretches-one : (words : List ℕ) (clash : List ℕ) (loads : List ℕ) (cells : ℕ) (n : ℕ) (blocked : List ℕ)
    → (r : Result Unit PlanError) × (words' : List ℕ) × (StretchesPlanStretches words clash loads cells n blocked r words')
    × ((q : Result Unit PlanError) (words'' : List ℕ) → StretchesPlanStretches words clash loads cells n blocked q words'' → (q ≡ r) × (words'' ≡ words'))
stretches_plan_stretches-one words clash loads cells n blocked = (
  answer_of (greedy (net_by cells n loads clash (is_open blocked))),
  out_words cells n (greedy (net_by cells n loads clash (is_open blocked))) ++ drop n words,
  record { answer = refl; words_after = refl },
  λ q words'' says. (says.answer, says.words_after),
)
