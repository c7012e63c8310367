-- The numbers given back tell the mender's answers apart. An answer is read back from its number and values. Assumes nothing.
use mathlib.Core.Path.{◌≡◌, refl, sym, ap, ◌∙◌}
use mathlib.Core.List.{List, [], ◌∷◌, map}
use Prim.Native.Nat.{ℕ}
use lib.Dec.{eqb}
use lib.ListN.{get_or}
use Rattle.std.specs.Prelude.{Result, Ok, Err}
use Rattle.laws.specs.Choice.{pick}
use Rattle.site.specs.Given.{Given}
use Rattle.site.proofs.Given.{fault_from}
use Rattle.site.specs.declared.Fault.TheVariants.{Size, Rule, Load, Reach, Blocked}
use Rattle.mender.specs.Given.{mend_given}
use Rattle.mender.specs.declared.MendError.{MendError}
use Rattle.mender.specs.declared.MendError.TheVariants.{TableShort, NoRoom, ListShort, Record}

-- the answer with this number and these values
abbrev read_back : Given → Result ℕ MendError
read_back g =
    pick (eqb g.number 0) (Ok (get_or g.values 0 0))
    (pick (eqb g.number 4) (Err TableShort)
    (pick (eqb g.number 5) (Err (NoRoom (get_or g.values 0 0) (get_or g.values 1 0)))
    (pick (eqb g.number 13) (Err (ListShort (get_or g.values 0 0))) (Err (Record (fault_from g))))))

read_back-law : (a : Result ℕ MendError) → read_back (mend_given a) ≡ a
read_back-law (Ok n) = refl
read_back-law (Err TableShort) = refl
read_back-law (Err (NoRoom c m)) = refl
read_back-law (Err (ListShort n)) = refl
read_back-law (Err (Record Size)) = refl
read_back-law (Err (Record Rule)) = refl
read_back-law (Err (Record (Load k))) = refl
read_back-law (Err (Record (Reach k))) = refl
read_back-law (Err (Record (Blocked k))) = refl

pub mend-apart : (a b : Result ℕ MendError) → mend_given a ≡ mend_given b → a ≡ b
mend-apart a b e = sym (read_back-law a) ∙ ap read_back e ∙ read_back-law b

-- the numbers and the values, in their order, of an answer of each kind
abbrev mends : (many cell short row position : ℕ) → List (Result ℕ MendError)
mends many cell short row position =
    Ok many ∷ Err TableShort ∷ Err (NoRoom cell short) ∷ Err (ListShort many) ∷ Err (Record Size) ∷ Err (Record Rule) ∷ Err (Record (Load cell))
    ∷ Err (Record (Reach row)) ∷ Err (Record (Blocked position)) ∷ []

pub mend-numbers : (many cell short row position : ℕ)
    → (map (λ (a : Result ℕ MendError). (mend_given a).number) (mends many cell short row position) ≡ 0 ∷ 4 ∷ 5 ∷ 13 ∷ 1 ∷ 24 ∷ 2 ∷ 3 ∷ 20 ∷ [])
    × (map (λ (a : Result ℕ MendError). (mend_given a).values) (mends many cell short row position)
    ≡ (many ∷ []) ∷ [] ∷ (cell ∷ short ∷ []) ∷ (many ∷ []) ∷ [] ∷ [] ∷ (cell ∷ []) ∷ (row ∷ []) ∷ (position ∷ []) ∷ [])
mend-numbers many cell short row position = (refl, refl)
