-- The numbers given back tell the search's answers apart. An answer is read back from its number and values. Assumes nothing.
use mathlib.Core.Path.{◌≡◌, refl, sym, ap, ◌∙◌}
use mathlib.Core.List.{List, [], ◌∷◌, map}
use Prim.Native.Nat.{ℕ}
use lib.Dec.{eqb}
use lib.ListN.{get_or}
use Rattle.std.specs.Prelude.{Result, Ok, Err}
use Rattle.laws.specs.Choice.{pick}
use Rattle.site.specs.Given.{Given}
use Rattle.site.proofs.Given.{fault_from}
use Rattle.site.specs.declared.Fault.TheVariants.{Size, Rule, Load, Reach, Blocked}
use Rattle.search.specs.Given.{search_given}
use Rattle.search.specs.declared.SearchError.{SearchError}
use Rattle.search.specs.declared.SearchError.TheVariants.{Full, Limit, TooMany, TableShort, Record}

-- the verdict with this number: a plan, none exists, limit met
abbrev verdict : ℕ → ℕ → Result ℕ SearchError
verdict v tries = pick (eqb v 0) (Ok tries) (pick (eqb v 1) (Err (Full tries)) (Err (Limit tries)))

-- the answer with this number and these values
abbrev read_back : Given → Result ℕ SearchError
read_back g =
    pick (eqb g.number 0) (verdict (get_or g.values 0 0) (get_or g.values 1 0))
    (pick (eqb g.number 4) (Err TableShort) (pick (eqb g.number 25) (Err TooMany) (Err (Record (fault_from g)))))

read_back-law : (a : Result ℕ SearchError) → read_back (search_given a) ≡ a
read_back-law (Ok n) = refl
read_back-law (Err (Full n)) = refl
read_back-law (Err (Limit n)) = refl
read_back-law (Err TooMany) = refl
read_back-law (Err TableShort) = refl
read_back-law (Err (Record Size)) = refl
read_back-law (Err (Record Rule)) = refl
read_back-law (Err (Record (Load k))) = refl
read_back-law (Err (Record (Reach k))) = refl
read_back-law (Err (Record (Blocked k))) = refl

pub search-apart : (a b : Result ℕ SearchError) → search_given a ≡ search_given b → a ≡ b
search-apart a b e = sym (read_back-law a) ∙ ap read_back e ∙ read_back-law b

-- the numbers and the values, in their order, of an answer of each kind
abbrev answers : (tries cell row : ℕ) → List (Result ℕ SearchError)
answers tries cell row =
    Ok tries ∷ Err (Full tries) ∷ Err (Limit tries) ∷ Err TooMany ∷ Err TableShort ∷ Err (Record Size) ∷ Err (Record Rule)
    ∷ Err (Record (Load cell)) ∷ Err (Record (Reach row)) ∷ Err (Record (Blocked cell)) ∷ []

pub search-numbers : (tries cell row : ℕ)
    → (map (λ (a : Result ℕ SearchError). (search_given a).number) (answers tries cell row) ≡ 0 ∷ 0 ∷ 0 ∷ 25 ∷ 4 ∷ 1 ∷ 24 ∷ 2 ∷ 3 ∷ 20 ∷ [])
    × (map (λ (a : Result ℕ SearchError). (search_given a).values) (answers tries cell row)
    ≡ (0 ∷ tries ∷ []) ∷ (1 ∷ tries ∷ []) ∷ (2 ∷ tries ∷ []) ∷ [] ∷ [] ∷ [] ∷ [] ∷ (cell ∷ []) ∷ (row ∷ []) ∷ (cell ∷ []) ∷ [])
search-numbers tries cell row = (refl, refl)
