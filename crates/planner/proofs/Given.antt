-- The numbers given back tell the planner's answers apart: an answer is read back from its number and values. Assumes nothing.
use mathlib.Core.Path.{◌≡◌, refl, sym, ap, ◌∙◌}
use mathlib.Core.List.{List, [], ◌∷◌, map}
use Prim.Native.Nat.{ℕ}
use lib.Dec.{eqb}
use lib.ListN.{get_or}
use Rattle.std.specs.Prelude.{Result, Ok, Err}
use Rattle.laws.specs.Choice.{pick}
use Rattle.site.specs.Given.{Given}
use Rattle.site.proofs.Given.{fault_from}
use Rattle.site.specs.declared.Fault.TheVariants.{Size, Rule, Load, Reach, Blocked}
use Rattle.planner.specs.Given.{plan_given}
use Rattle.planner.specs.declared.PlanError.{PlanError}
use Rattle.planner.specs.declared.PlanError.TheVariants.{TableShort, NoRoom, Record}

-- the answer with this number and these values
abbrev read_back : Given → Result Unit PlanError
read_back g =
    pick (eqb g.number 0) (Ok tt)
    (pick (eqb g.number 4) (Err TableShort)
    (pick (eqb g.number 5) (Err (NoRoom (get_or g.values 0 0) (get_or g.values 1 0))) (Err (Record (fault_from g)))))

read_back-law : (a : Result Unit PlanError) → read_back (plan_given a) ≡ a
read_back-law (Ok u) = refl
read_back-law (Err TableShort) = refl
read_back-law (Err (NoRoom c m)) = refl
read_back-law (Err (Record Size)) = refl
read_back-law (Err (Record Rule)) = refl
read_back-law (Err (Record (Load k))) = refl
read_back-law (Err (Record (Reach k))) = refl
read_back-law (Err (Record (Blocked k))) = refl

pub plan-apart : (a b : Result Unit PlanError) → plan_given a ≡ plan_given b → a ≡ b
plan-apart a b e = sym (read_back-law a) ∙ ap read_back e ∙ read_back-law b

-- the numbers and the values, in their order, of an answer of each kind
abbrev plans : (cell short row : ℕ) → List (Result Unit PlanError)
plans cell short row =
    Ok tt ∷ Err TableShort ∷ Err (NoRoom cell short)
    ∷ Err (Record Size) ∷ Err (Record Rule) ∷ Err (Record (Load cell)) ∷ Err (Record (Reach row)) ∷ []

pub plan-numbers : (cell short row : ℕ)
    → (map (λ (a : Result Unit PlanError). (plan_given a).number) (plans cell short row) ≡ 0 ∷ 4 ∷ 5 ∷ 1 ∷ 24 ∷ 2 ∷ 3 ∷ [])
    × (map (λ (a : Result Unit PlanError). (plan_given a).values) (plans cell short row)
    ≡ [] ∷ [] ∷ (cell ∷ short ∷ []) ∷ [] ∷ [] ∷ (cell ∷ []) ∷ (row ∷ []) ∷ [])
plan-numbers cell short row = (refl, refl)
