-- For any arguments one answer and one content of what is lent meet the contract, and no other, in crate `say_tally`: by its equalities alone.
-- Made by tools/surface from the source. Assumes nothing.
use Rattle.std.specs.Prelude.{Bool, List, Option, Result, length, refl, ℕ, ◌+◌, ◌≡◌}
use Rattle.checker.specs.declared.CheckError.{CheckError}
use Rattle.contracts.specs.SayTallySays.{SayTallyAllWell, SayTallyMarkOf, SayTallyPutTotals, SayTallyRefusedMark, SayTallyVerdictSaid}
use Rattle.finder.specs.declared.FindError.{FindError}
use Rattle.finder.specs.declared.Way.{Way}
use Rattle.say_tally.specs.Marks.{mark_of, refused_mark, verdict_said}
use Rattle.say_tally.specs.Said.{all_well, totals_said}
use Rattle.say_tally.specs.declared.PlanSaid.{PlanSaid}
use Rattle.std.proofs.lemmas.List.Edits.{sets}

-- say_tally::verdict_said
pub say_tally_verdict_said-one : (verdict : Result Unit CheckError) (unseen : Bool)
    → (r : PlanSaid) × (SayTallyVerdictSaid verdict unseen r)
    × ((q : PlanSaid) → SayTallyVerdictSaid verdict unseen q → (q ≡ r))
say_tally_verdict_said-one verdict unseen = (
  verdict_said verdict unseen,
  record { answer = refl },
  λ q says. says.answer,
)

-- say_tally::mark_of
pub say_tally_mark_of-one : (found : Result Way FindError) (plan : Option PlanSaid)
    → (r : ℕ) × (SayTallyMarkOf found plan r)
    × ((q : ℕ) → SayTallyMarkOf found plan q → (q ≡ r))
say_tally_mark_of-one found plan = (
  mark_of found plan,
  record { answer = refl },
  λ q says. says.answer,
)

-- say_tally::refused_mark
pub say_tally_refused_mark-one : (r : ℕ) × (SayTallyRefusedMark r)
    × ((q : ℕ) → SayTallyRefusedMark q → (q ≡ r))
say_tally_refused_mark-one = (
  refused_mark,
  record { answer = refl },
  λ q says. says.answer,
)

-- say_tally::put_totals
pub say_tally_put_totals-one : (out : List ℕ) (at : ℕ) (tally : List ℕ)
    → (r : ℕ) × (out' : List ℕ) × (SayTallyPutTotals out at tally r out')
    × ((q : ℕ) (out'' : List ℕ) → SayTallyPutTotals out at tally q out'' → (q ≡ r) × (out'' ≡ out'))
say_tally_put_totals-one out at tally = (
  at + length (totals_said tally),
  sets out at (totals_said tally),
  record { answer = refl; out_after = refl },
  λ q out'' says. (says.answer, says.out_after),
)

-- say_tally::all_well
pub say_tally_all_well-one : (tally : List ℕ)
    → (r : Bool) × (SayTallyAllWell tally r)
    × ((q : Bool) → SayTallyAllWell tally q → (q ≡ r))
say_tally_all_well-one tally = (
  all_well tally,
  record { answer = refl },
  λ q says. says.answer,
)
