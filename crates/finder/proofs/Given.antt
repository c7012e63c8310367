-- The numbers given back tell the answers of each call apart: an answer is read back from its number and values. Assumes nothing.
use mathlib.Core.Path.{◌≡◌, refl, sym, ap, ◌∙◌}
use mathlib.Core.List.{List, [], ◌∷◌, map}
use Prim.Native.Nat.{ℕ}
use lib.Dec.{eqb}
use lib.ListN.{get_or}
use Rattle.std.specs.Prelude.{Result, Ok, Err}
use Rattle.laws.specs.Choice.{pick}
use Rattle.site.specs.Given.{Given, as_list}
use Rattle.site.proofs.Given.{fault_from}
use Rattle.site.specs.declared.Fault.{Fault}
use Rattle.site.specs.declared.Fault.TheVariants.{Size, Rule, Load, Reach, Blocked}
use Rattle.finder.specs.Find.{over_said}
use Rattle.finder.specs.Given.{find_given, over_full_given}
use Rattle.finder.specs.declared.Way.{Way}
use Rattle.finder.specs.declared.Way.TheVariants.{Greedy, Renumbered, Searched}
use Rattle.finder.specs.declared.FindError.{FindError}
use Rattle.finder.specs.declared.FindError.TheVariants.{Full, FullInClass, FullSearched, NotKnown, TableShort, Record}
use Rattle.finder.specs.declared.OverFull.{OverFull}
use Rattle.finder.specs.declared.OverFull.TheVariants.{Over, Within}

-- ---- `find`

-- the verdict with this number, by this way
abbrev verdict : ℕ → ℕ → ℕ → Result Way FindError
verdict v way x =
    pick (eqb v 0)
    (Ok (pick (eqb way 0) Greedy (pick (eqb way 2) Renumbered (Searched x))))
    (Err (pick (eqb v 1) (pick (eqb way 1) (Full x) (pick (eqb way 2) FullInClass (FullSearched x))) (NotKnown x)))

abbrev find_from : Given → Result Way FindError
find_from g =
    pick (eqb g.number 0)
    (verdict (get_or g.values 0 0) (get_or g.values 1 0) (get_or g.values 2 0))
    (Err (pick (eqb g.number 4) TableShort (Record (fault_from g))))

find-back : (a : Result Way FindError) → find_from (find_given a) ≡ a
find-back (Ok Greedy) = refl
find-back (Ok Renumbered) = refl
find-back (Ok (Searched n)) = refl
find-back (Err (Full x)) = refl
find-back (Err FullInClass) = refl
find-back (Err (FullSearched n)) = refl
find-back (Err (NotKnown n)) = refl
find-back (Err TableShort) = refl
find-back (Err (Record Size)) = refl
find-back (Err (Record Rule)) = refl
find-back (Err (Record (Load k))) = refl
find-back (Err (Record (Reach k))) = refl
find-back (Err (Record (Blocked k))) = refl

pub find-apart : (a b : Result Way FindError) → find_given a ≡ find_given b → a ≡ b
find-apart a b e = sym (find-back a) ∙ ap find_from e ∙ find-back b

-- ---- `over_full`

abbrev over_from : Given → Result OverFull Fault
over_from g = pick (eqb g.number 0) (Ok (over_said (eqb (get_or g.values 0 0) 1) (get_or g.values 1 0))) (Err (fault_from g))

over-back : (a : Result OverFull Fault) → over_from (over_full_given a) ≡ a
over-back (Ok (Over load)) = refl
over-back (Ok (Within load)) = refl
over-back (Err Size) = refl
over-back (Err Rule) = refl
over-back (Err (Load k)) = refl
over-back (Err (Reach k)) = refl
over-back (Err (Blocked k)) = refl

pub over-apart : (a b : Result OverFull Fault) → over_full_given a ≡ over_full_given b → a ≡ b
over-apart a b e = sym (over-back a) ∙ ap over_from e ∙ over-back b

-- the numbers and the values, in their order, of an answer of each kind
abbrev finds : (tries cells row position : ℕ) → List (Result Way FindError)
finds tries cells row position =
    Ok Greedy ∷ Ok Renumbered ∷ Ok (Searched tries) ∷ Err (Full cells) ∷ Err FullInClass ∷ Err (FullSearched tries) ∷ Err (NotKnown tries)
    ∷ Err TableShort ∷ Err (Record Size) ∷ Err (Record (Reach row)) ∷ Err (Record (Blocked position)) ∷ []

abbrev overs : (load position : ℕ) → List (Result OverFull Fault)
overs load position = Ok (Over load) ∷ Ok (Within load) ∷ Err Size ∷ Err (Blocked position) ∷ []

pub finder-numbers : (tries cells load row position : ℕ)
    → (map (λ (a : Result Way FindError). as_list (find_given a)) (finds tries cells row position)
    ≡ (0 ∷ 0 ∷ 0 ∷ 0 ∷ []) ∷ (0 ∷ 0 ∷ 2 ∷ 0 ∷ []) ∷ (0 ∷ 0 ∷ 3 ∷ tries ∷ []) ∷ (0 ∷ 1 ∷ 1 ∷ cells ∷ []) ∷ (0 ∷ 1 ∷ 2 ∷ 0 ∷ []) ∷ (0 ∷ 1 ∷ 3 ∷ tries ∷ [])
    ∷ (0 ∷ 2 ∷ 3 ∷ tries ∷ []) ∷ (4 ∷ []) ∷ (1 ∷ []) ∷ (3 ∷ row ∷ []) ∷ (20 ∷ position ∷ []) ∷ [])
    × (map (λ (a : Result OverFull Fault). as_list (over_full_given a)) (overs load position)
    ≡ (0 ∷ 1 ∷ load ∷ []) ∷ (0 ∷ 0 ∷ load ∷ []) ∷ (1 ∷ []) ∷ (20 ∷ position ∷ []) ∷ [])
finder-numbers tries cells load row position = (refl, refl)
