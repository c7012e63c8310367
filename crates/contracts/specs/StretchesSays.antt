-- The equalities that the contracts of crate `stretches` state: r is the answer, and x' what a lent x holds afterwards.
-- Made by tools/surface from the source.
use Rattle.std.specs.Prelude.{List, Result, drop, ℕ, ◌++◌, ◌≡◌}
use Rattle.planner.specs.Plan.{answer_of}
use Rattle.planner.specs.declared.PlanError.{PlanError}
use Rattle.site.specs.Reach.{is_open, net_by}
use Rattle.theory.specs.Greedy.{greedy}
use Rattle.words.specs.Words.{out_words}

-- stretches::plan_stretches
pub record StretchesPlanStretches (words : List ℕ) (clash : List ℕ) (loads : List ℕ) (cells : ℕ) (n : ℕ) (blocked : List ℕ)
    (r : Result Unit PlanError) (words' : List ℕ) : Type 0 where
  pub answer : r ≡ answer_of (greedy (net_by cells n loads clash (is_open blocked)))
  pub words_after : words' ≡ out_words cells n (greedy (net_by cells n loads clash (is_open blocked))) ++ drop n words
