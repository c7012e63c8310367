-- The numbers given back tell the checker's answers apart: an answer is read back from its number and values. Assumes nothing.
use mathlib.Core.Path.{◌≡◌, refl, sym, ap, ◌∙◌}
use mathlib.Core.List.{List, [], ◌∷◌, map}
use Prim.Native.Nat.{ℕ}
use lib.Dec.{eqb}
use lib.ListN.{get_or}
use Rattle.std.specs.Prelude.{Result, Ok, Err}
use Rattle.laws.specs.Choice.{pick}
use Rattle.site.specs.Given.{Given}
use Rattle.site.proofs.Given.{fault_from}
use Rattle.site.specs.declared.Fault.TheVariants as fault
use Rattle.checker.specs.Given.{check_given}
use Rattle.checker.specs.declared.CheckError.{CheckError}
use Rattle.checker.specs.declared.CheckError.TheVariants.{TableShort, Blocked, Clash, Count, Record}

-- the answer with this number and these values
abbrev read_back : Given → Result Unit CheckError
read_back g =
    pick (eqb g.number 0) (Ok tt)
    (pick (eqb g.number 4) (Err TableShort)
    (pick (eqb g.number 6) (Err (Clash (get_or g.values 0 0) (get_or g.values 1 0) (get_or g.values 2 0)))
    (pick (eqb g.number 7) (Err (Count (get_or g.values 0 0) (get_or g.values 1 0)))
    (pick (eqb g.number 22) (Err (Blocked (get_or g.values 0 0) (get_or g.values 1 0))) (Err (Record (fault_from g)))))))

read_back-law : (a : Result Unit CheckError) → read_back (check_given a) ≡ a
read_back-law (Ok u) = refl
read_back-law (Err TableShort) = refl
read_back-law (Err (Blocked p c)) = refl
read_back-law (Err (Clash p a c)) = refl
read_back-law (Err (Count c n)) = refl
read_back-law (Err (Record fault.Size)) = refl
read_back-law (Err (Record fault.Rule)) = refl
read_back-law (Err (Record (fault.Load k))) = refl
read_back-law (Err (Record (fault.Reach k))) = refl
read_back-law (Err (Record (fault.Blocked k))) = refl

pub check-apart : (a b : Result Unit CheckError) → check_given a ≡ check_given b → a ≡ b
check-apart a b e = sym (read_back-law a) ∙ ap read_back e ∙ read_back-law b

-- the numbers and the values, in their order, of an answer of each kind
abbrev checks : (position a c cell n row : ℕ) → List (Result Unit CheckError)
checks position a c cell n row =
    Ok tt ∷ Err TableShort ∷ Err (Blocked position cell) ∷ Err (Clash position a c) ∷ Err (Count cell n) ∷ Err (Record fault.Size)
    ∷ Err (Record fault.Rule) ∷ Err (Record (fault.Load cell)) ∷ Err (Record (fault.Reach row)) ∷ Err (Record (fault.Blocked position)) ∷ []

pub check-numbers : (position a c cell n row : ℕ)
    → (map (λ (a : Result Unit CheckError). (check_given a).number) (checks position a c cell n row) ≡ 0 ∷ 4 ∷ 22 ∷ 6 ∷ 7 ∷ 1 ∷ 24 ∷ 2 ∷ 3 ∷ 20 ∷ [])
    × (map (λ (a : Result Unit CheckError). (check_given a).values) (checks position a c cell n row)
    ≡ [] ∷ [] ∷ (position ∷ cell ∷ []) ∷ (position ∷ a ∷ c ∷ []) ∷ (cell ∷ n ∷ []) ∷ [] ∷ [] ∷ (cell ∷ []) ∷ (row ∷ []) ∷ (position ∷ []) ∷ [])
check-numbers position a c cell n row = (refl, refl)
