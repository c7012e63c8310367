-- The equalities that the contracts of crate `say_tally` state: r is the answer, and x' what a lent x holds afterwards.
-- Made by tools/surface from the source.
use Rattle.std.specs.Prelude.{Bool, List, Option, Result, length, ℕ, ◌+◌, ◌≡◌}
use Rattle.checker.specs.declared.CheckError.{CheckError}
use Rattle.finder.specs.declared.FindError.{FindError}
use Rattle.finder.specs.declared.Way.{Way}
use Rattle.say_tally.specs.Marks.{mark_of, refused_mark, verdict_said}
use Rattle.say_tally.specs.Said.{all_well, totals_said}
use Rattle.say_tally.specs.declared.PlanSaid.{PlanSaid}
use Rattle.std.proofs.lemmas.List.Edits.{sets}

-- say_tally::verdict_said
pub record SayTallyVerdictSaid (verdict : Result Unit CheckError) (unseen : Bool) (r : PlanSaid) : Type 0 where
  pub answer : r ≡ verdict_said verdict unseen

-- say_tally::mark_of
pub record SayTallyMarkOf (found : Result Way FindError) (plan : Option PlanSaid) (r : ℕ) : Type 0 where
  pub answer : r ≡ mark_of found plan

-- say_tally::refused_mark
pub record SayTallyRefusedMark (r : ℕ) : Type 0 where
  pub answer : r ≡ refused_mark

-- say_tally::put_totals
pub record SayTallyPutTotals (out : List ℕ) (at : ℕ) (tally : List ℕ) (r : ℕ) (out' : List ℕ) : Type 0 where
  pub answer : r ≡ at + length (totals_said tally)
  pub out_after : out' ≡ sets out at (totals_said tally)

-- say_tally::all_well
pub record SayTallyAllWell (tally : List ℕ) (r : Bool) : Type 0 where
  pub answer : r ≡ all_well tally
