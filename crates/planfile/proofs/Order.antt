-- A refused read is refused for the first reason of the document's order that applies, and a done read has none. By the laws of lists of reasons.
-- Assumes nothing.
use Prim.Native.Nat.{ℕ, ◌≤◌}
use mathlib.Core.Path.{◌≡◌, refl, sym, ◌∙◌}
use mathlib.Core.List.{List, [], ◌∷◌, map}
use native.Mathlib.Omega.{arith}
use Rattle.records.specs.Reasons.{Reason, NoneApply, First}
use Rattle.records.specs.declared.Refusal.{Refusal}
use Rattle.std.specs.Prelude.{Result, Ok, Err}
use Rattle.records.specs.Reasons.{refusal}
use Rattle.records.proofs.Reasons.{done_none, refused-first, Some, some_first}
use Rattle.planfile.specs.Read.{plan_at, end_in, plan_reasons, plan_read_answer, plan_read_of, read_plan}

-- the order, as numbers and offsets: head, its contents, plan, its contents, then 12, then 4
pub numbers : (s t : List ℕ) → map (λ (r : Reason). r.number) (plan_reasons s t) ≡ 8 ∷ 9 ∷ 10 ∷ 8 ∷ 1 ∷ 8 ∷ 9 ∷ 10 ∷ 8 ∷ 14 ∷ 12 ∷ 4 ∷ []
numbers s t = refl

pub offsets :
    (s t : List ℕ) →
    map (λ (r : Reason). r.offset) (plan_reasons s t) ≡ 0 ∷ 0 ∷ 0 ∷ 0 ∷ 0 ∷ plan_at s ∷ plan_at s ∷ plan_at s ∷ plan_at s ∷ plan_at s ∷ end_in s ∷ 0 ∷ []
offsets s t = refl

answer_at : (i a f : ℕ) (x : Result Unit Refusal) → (plan_read_of i a f x).answer ≡ x
unfolding plan_read_of
answer_at i a f (Ok u) = refl
answer_at i a f (Err r) = refl

pub answer-is : (s t : List ℕ) → (read_plan s t).answer ≡ plan_read_answer s t
unfolding read_plan
answer-is s t = answer_at _ _ _ (plan_read_answer s t)

-- the two ways of a read
pub plan-refused : (s t : List ℕ) (n at : ℕ) → (read_plan s t).answer ≡ Err (refusal n at) → First (plan_reasons s t) n at
unfolding plan_read_answer
plan-refused s t n at e = refused-first (plan_reasons s t) n at (sym (answer-is s t) ∙ e)

pub plan-done : (s t : List ℕ) → (read_plan s t).answer ≡ Ok tt → NoneApply (plan_reasons s t)
unfolding plan_read_answer
plan-done s t e = done_none (plan_reasons s t) (sym (answer-is s t) ∙ e)

-- "refused, three zeros"
pub refused-zeros :
    (s t : List ℕ) (n at : ℕ) → (read_plan s t).answer ≡ Err (refusal n at) →
    read_plan s t ≡ record { cells = 0; slots = 0; channels = 0; answer = Err (refusal n at) }
unfolding read_plan plan_read_of
refused-zeros s t n at e = rw (sym (answer-is s t) ∙ e) refl

-- no refusal has the number 0
some-plan : (s t : List ℕ) → Some (plan_reasons s t)
some-plan s t = (
  omega arith,
  (
    omega arith,
    (
      omega arith,
      (
        omega arith,
        (
          omega arith,
          (
            omega arith,
            (omega arith, (omega arith, (omega arith, (omega arith, (omega arith, (omega arith, tt)))))),
          ),
        ),
      ),
    ),
  ),
)

pub refused-some : (s t : List ℕ) (n at : ℕ) → (read_plan s t).answer ≡ Err (refusal n at) → 1 ≤ n
unfolding plan_read_answer
refused-some s t n at e = some_first (plan_reasons s t) (some-plan s t) n at (sym (answer-is s t) ∙ e)
