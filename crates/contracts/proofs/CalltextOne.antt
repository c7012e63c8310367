-- For any arguments one answer and one content of what is lent meet the contract, and no other, in crate `calltext`: by its equalities alone.
-- Made by tools/surface from the source. Assumes nothing.
use Rattle.std.specs.Prelude.{List, Result, refl, ℕ, ◌≡◌}
use Rattle.contracts.specs.CalltextSays.{CallText}
use Rattle.records.specs.Write.{laid_over, written}
use Rattle.records.specs.declared.WriteError.{WriteError}
use Rattle.say_answers.specs.Said.{call_said}

-- calltext::call_text
pub call_text-one : (call : ℕ) (number : ℕ) (a : ℕ) (b : ℕ) (c : ℕ) (out : List ℕ)
    → (r : Result ℕ WriteError) × (out' : List ℕ) × (CallText call number a b c out r out')
    × ((q : Result ℕ WriteError) (out'' : List ℕ) → CallText call number a b c out q out'' → (q ≡ r) × (out'' ≡ out'))
call_text-one call number a b c out = (
  written (call_said call number a b c) out,
  laid_over (call_said call number a b c) out,
  record { answer = refl; out_after = refl },
  λ q out'' says. (says.answer, says.out_after),
)
