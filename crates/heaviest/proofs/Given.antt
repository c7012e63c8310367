-- The numbers and values tell the cases of the answer apart: from them each answer is read back.
-- Assumes nothing.
use Prim.Native.Nat.{ℕ}
use mathlib.Core.Path.{◌≡◌, refl, sym, ap, ◌∙◌}
use mathlib.Core.List.{List, [], ◌∷◌, map}
use lib.Dec.{eqb}
use lib.ListN.{get_or}
use Rattle.std.specs.Prelude.{Result, Ok, Err}
use Rattle.laws.specs.Choice.{pick}
use Rattle.site.specs.Given.{Given}
use Rattle.site.specs.declared.Fault.{Fault}
use Rattle.site.specs.declared.Fault.TheVariants.{Size, Rule, Load, Reach, Blocked}
use Rattle.site.proofs.Given.{fault_from}
use Rattle.heaviest.specs.Given.{heaviest_given}

abbrev heaviest_from : Given → Result (ℕ × ℕ) Fault
heaviest_from g = pick (eqb g.number 0) (Ok (get_or g.values 0 0, get_or g.values 1 0)) (Err (fault_from g))

heaviest-back : (a : Result (ℕ × ℕ) Fault) → heaviest_from (heaviest_given a) ≡ a
heaviest-back (Ok (load, cells)) = refl
heaviest-back (Err Size) = refl
heaviest-back (Err Rule) = refl
heaviest-back (Err (Load k)) = refl
heaviest-back (Err (Reach k)) = refl
heaviest-back (Err (Blocked k)) = refl

pub heaviest-apart : (a b : Result (ℕ × ℕ) Fault) → heaviest_given a ≡ heaviest_given b → a ≡ b
heaviest-apart a b e = sym (heaviest-back a) ∙ ap heaviest_from e ∙ heaviest-back b

-- the numbers and the values, in their order, of an answer of each kind
abbrev answers : (load cells cell row position : ℕ) → List (Result (ℕ × ℕ) Fault)
answers load cells cell row position =
    Ok (load, cells) ∷ Err Size ∷ Err Rule ∷ Err (Load cell) ∷ Err (Reach row) ∷ Err (Blocked position) ∷ []

pub heaviest-numbers : (load cells cell row position : ℕ)
    → (map (λ (a : Result (ℕ × ℕ) Fault). (heaviest_given a).number) (answers load cells cell row position) ≡ 0 ∷ 1 ∷ 24 ∷ 2 ∷ 3 ∷ 20 ∷ [])
    × (map (λ (a : Result (ℕ × ℕ) Fault). (heaviest_given a).values) (answers load cells cell row position)
    ≡ (load ∷ cells ∷ []) ∷ [] ∷ [] ∷ (cell ∷ []) ∷ (row ∷ []) ∷ (position ∷ []) ∷ [])
heaviest-numbers load cells cell row position = (refl, refl)
