-- The numbers given back tell the answers apart: an answer is read back from its number and values. Assumes nothing.
use mathlib.Core.Path.{◌≡◌, refl, sym, ap, ◌∙◌}
use mathlib.Core.List.{List, [], ◌∷◌, map}
use Prim.Native.Nat.{ℕ}
use lib.Dec.{eqb}
use lib.ListN.{get_or}
use Rattle.std.specs.Prelude.{Result, Ok, Err}
use Rattle.laws.specs.Choice.{pick}
use Rattle.site.specs.Given.{Given}
use Rattle.site.proofs.Given.{fault_from}
use Rattle.site.specs.declared.Fault.TheVariants.{Size, Rule, Load, Reach, Blocked}
use Rattle.handheld.specs.Given.{change_given}
use Rattle.handheld.specs.declared.ChangeError.{ChangeError}
use Rattle.handheld.specs.declared.ChangeError.TheVariants.{TableShort, NotPlan, NoRoom, Record}

-- the answer with this number and these values
abbrev read_back : Given → Result Unit ChangeError
read_back g =
    pick (eqb g.number 0) (Ok tt)
    (pick (eqb g.number 4) (Err TableShort)
    (pick (eqb g.number 26) (Err NotPlan)
    (pick (eqb g.number 5) (Err (NoRoom (get_or g.values 0 0) (get_or g.values 1 0))) (Err (Record (fault_from g))))))

read_back-law : (a : Result Unit ChangeError) → read_back (change_given a) ≡ a
read_back-law (Ok u) = refl
read_back-law (Err TableShort) = refl
read_back-law (Err NotPlan) = refl
read_back-law (Err (NoRoom c m)) = refl
read_back-law (Err (Record Size)) = refl
read_back-law (Err (Record Rule)) = refl
read_back-law (Err (Record (Load k))) = refl
read_back-law (Err (Record (Reach k))) = refl
read_back-law (Err (Record (Blocked k))) = refl

pub change-apart : (a b : Result Unit ChangeError) → change_given a ≡ change_given b → a ≡ b
change-apart a b e = sym (read_back-law a) ∙ ap read_back e ∙ read_back-law b

-- the numbers and the values, in their order, of an answer of each kind
abbrev answers_of : (cell short : ℕ) → List (Result Unit ChangeError)
answers_of cell short =
    Ok tt ∷ Err TableShort ∷ Err NotPlan ∷ Err (NoRoom cell short) ∷ Err (Record Size) ∷ Err (Record Rule) ∷ Err (Record (Load cell)) ∷ []

pub change-numbers : (cell short : ℕ)
    → (map (λ (a : Result Unit ChangeError). (change_given a).number) (answers_of cell short) ≡ 0 ∷ 4 ∷ 26 ∷ 5 ∷ 1 ∷ 24 ∷ 2 ∷ [])
    × (map (λ (a : Result Unit ChangeError). (change_given a).values) (answers_of cell short)
    ≡ [] ∷ [] ∷ [] ∷ (cell ∷ short ∷ []) ∷ [] ∷ [] ∷ (cell ∷ []) ∷ [])
change-numbers cell short = (refl, refl)
