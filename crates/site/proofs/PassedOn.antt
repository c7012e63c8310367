-- How a call passes a record's fault on. It answers `answer_with refused f answer`, where f is what is found of the record and `answer` its answer for an
-- accepted one. So it refuses with the record's own fault, exactly where there is one. Each call that takes a record cites this, in its own crate.
-- Assumes nothing.
use Prim.Native.Nat.{ℕ}
use mathlib.Core.Logic.{◌↔◌}
use mathlib.Core.Path.{◌≡◌, ap}
use Rattle.std.specs.Prelude.{Result, Ok, Err}
use Rattle.std.specs.Result.{result_and}
use Rattle.site.specs.Record.{answer_with, fault_of}
use Rattle.site.specs.Reach.{clash_named, clash_answer}
use Rattle.site.specs.declared.Site.{Site}
use Rattle.site.specs.declared.Fault.{Fault}

-- For refusals that tell their faults apart: a call whose answer for an accepted record is no such refusal.
pub passed_on : {A E : Type 0} (refused : Fault → E) → ((f g : Fault) → refused f ≡ refused g → f ≡ g)
    → (f : Result Unit Fault) (answer : Result A E) → ((g : Fault) → answer ≡ Err (refused g) → ⊥)
    → (g : Fault) → answer_with refused f answer ≡ Err (refused g) ↔ (f ≡ Err g)
passed_on refused one (Ok u) answer never g = (λ e. absurd (never g e), λ h. cc)
passed_on refused one (Err f) answer never g = (λ e. ap Err (one f g cc), λ h. ap (λ x. Err (refused x)) cc)

-- ---- the clash call

module _ (s : Site) (a b : ℕ) where
  pub clash-refused : (f : Fault) → clash_answer s a b ≡ Err f ↔ (fault_of s ≡ Err f)
  unfolding clash_answer
  clash-refused f = go (fault_of s)
    where
      go : (r : Result Unit Fault) → result_and r (Ok (clash_named s a b)) ≡ Err f ↔ (r ≡ Err f)
      go (Ok u) = (λ e. cc, λ h. cc)
      go (Err g) = (λ e. cc, λ h. cc)
