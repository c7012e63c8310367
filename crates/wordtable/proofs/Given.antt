-- The numbers given back tell the answers to a change of form apart: an answer is read back from its number and values.
-- The word planner and the word checker answer by the planner's and the checker's own numbers. Assumes nothing.
use mathlib.Core.Path.{◌≡◌, refl, sym, ap, ◌∙◌}
use mathlib.Core.List.{List, [], ◌∷◌, map}
use Prim.Native.Nat.{ℕ}
use lib.Dec.{eqb}
use Rattle.std.specs.Prelude.{Result, Ok, Err}
use Rattle.laws.specs.Choice.{pick}
use Rattle.site.specs.Given.{Given}
use Rattle.site.proofs.Given.{fault_from}
use Rattle.site.specs.declared.Fault.TheVariants.{Size, Rule, Load, Reach, Blocked}
use Rattle.wordtable.specs.Given.{form_given}
use Rattle.wordtable.specs.declared.FormError.{FormError}
use Rattle.wordtable.specs.declared.FormError.TheVariants.{TableShort, Record}

-- the answer with this number and these values
abbrev read_back : Given → Result Unit FormError
read_back g = pick (eqb g.number 0) (Ok tt) (pick (eqb g.number 4) (Err TableShort) (Err (Record (fault_from g))))

read_back-law : (a : Result Unit FormError) → read_back (form_given a) ≡ a
read_back-law (Ok u) = refl
read_back-law (Err TableShort) = refl
read_back-law (Err (Record Size)) = refl
read_back-law (Err (Record Rule)) = refl
read_back-law (Err (Record (Load k))) = refl
read_back-law (Err (Record (Reach k))) = refl
read_back-law (Err (Record (Blocked k))) = refl

pub form-apart : (a b : Result Unit FormError) → form_given a ≡ form_given b → a ≡ b
form-apart a b e = sym (read_back-law a) ∙ ap read_back e ∙ read_back-law b

-- the numbers and the values, in their order, of an answer of each kind
abbrev forms : (cell row position : ℕ) → List (Result Unit FormError)
forms cell row position =
    Ok tt ∷ Err TableShort ∷ Err (Record Size) ∷ Err (Record Rule) ∷ Err (Record (Load cell)) ∷ Err (Record (Reach row))
    ∷ Err (Record (Blocked position)) ∷ []

pub form-numbers : (cell row position : ℕ)
    → (map (λ (a : Result Unit FormError). (form_given a).number) (forms cell row position) ≡ 0 ∷ 4 ∷ 1 ∷ 24 ∷ 2 ∷ 3 ∷ 20 ∷ [])
    × (map (λ (a : Result Unit FormError). (form_given a).values) (forms cell row position)
    ≡ [] ∷ [] ∷ [] ∷ [] ∷ (cell ∷ []) ∷ (row ∷ []) ∷ (position ∷ []) ∷ [])
form-numbers cell row position = (refl, refl)
