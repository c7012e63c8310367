-- The numbers and values tell the answers apart among those that refuse the record, and among those that do not: a flow's 2 has the number and the place of a
-- record's 2, so that a caller in C asks for the record's fault to know which it is.
-- Assumes nothing.
use Prim.Native.Nat.{ℕ}
use mathlib.Core.Bool.{Bool, true, false, false≢true}
use mathlib.Core.List.{List, [], ◌∷◌, map}
use mathlib.Core.Path.{◌≡◌, refl, sym, ap, ap₂, ◌∙◌}
use native.Mathlib.Omega.{arith}
use lib.Dec.{eqb}
use lib.ListN.{get_or}
use Rattle.std.specs.Prelude.{Result, Ok, Err}
use Rattle.laws.specs.Choice.{pick}
use Rattle.site.specs.Given.{Given}
use Rattle.site.specs.declared.Fault.{Fault}
use Rattle.site.specs.declared.Fault.TheVariants.{Size, Rule, Load, Reach, Blocked}
use Rattle.site.proofs.Given.{fault_from}
use Rattle.admission.specs.Beside.{as_beside}
use Rattle.admission.specs.Given.{admit_given, of_record, beside_given, beside_record}
use Rattle.admission.specs.declared.AdmitError.{AdmitError}
use Rattle.admission.specs.declared.AdmitError.TheVariants.{TooMany, NotNested, BadCell, BadFlow, BigShare, Record}
use Rattle.admission.specs.declared.BesideError.{BesideError}
use Rattle.admission.specs.declared.BesideError.TheVariants.{Over, Admit}

-- the answer with this number and these values, once it is known whether the record is refused
abbrev pub read_back : Bool → Given → Result ℕ AdmitError
read_back whole g =
    pick whole (Err (Record (fault_from g)))
    (pick (eqb g.number 0) (Ok (get_or g.values 0 0))
    (pick (eqb g.number 18) (Err TooMany)
    (pick (eqb g.number 19) (Err NotNested)
    (pick (eqb g.number 2) (Err (BadCell (get_or g.values 0 0))) (pick (eqb g.number 15) (Err (BadFlow (get_or g.values 0 0)))
    (Err (BigShare (get_or g.values 0 0))))))))

read-refusal : (f : Fault) → read_back true (admit_given (Err (Record f))) ≡ Err (Record f)
read-refusal Size = refl
read-refusal Rule = refl
read-refusal (Load k) = refl
read-refusal (Reach k) = refl
read-refusal (Blocked k) = refl

read_back-law : (a : Result ℕ AdmitError) → read_back (of_record a) (admit_given a) ≡ a
read_back-law (Ok set) = refl
read_back-law (Err TooMany) = refl
read_back-law (Err NotNested) = refl
read_back-law (Err (BadCell flow)) = refl
read_back-law (Err (BadFlow flow)) = refl
read_back-law (Err (BigShare flow)) = refl
read_back-law (Err (Record f)) = read-refusal f

pub admit-apart : (a b : Result ℕ AdmitError) → of_record a ≡ of_record b → admit_given a ≡ admit_given b → a ≡ b
admit-apart a b r e = sym (read_back-law a) ∙ ap₂ read_back r e ∙ read_back-law b

-- 0 with one value is a set, and nothing else
pub done-set : (a : Result ℕ AdmitError) (x : ℕ) → admit_given a ≡ record { number = 0; values = x ∷ [] } → a ≡ Ok x
done-set (Ok set) x e = let same : set ≡ x = ap (λ (g : Given). get_or g.values 0 0) e in ap Ok same
done-set (Err TooMany) x e = absurd (omega (arith, ap (λ (g : Given). g.number) e))
done-set (Err NotNested) x e = absurd (omega (arith, ap (λ (g : Given). g.number) e))
done-set (Err (BadCell flow)) x e = absurd (omega (arith, ap (λ (g : Given). g.number) e))
done-set (Err (BadFlow flow)) x e = absurd (omega (arith, ap (λ (g : Given). g.number) e))
done-set (Err (BigShare flow)) x e = absurd (omega (arith, ap (λ (g : Given). g.number) e))
done-set (Err (Record Size)) x e = absurd (omega (arith, ap (λ (g : Given). g.number) e))
done-set (Err (Record Rule)) x e = absurd (omega (arith, ap (λ (g : Given). g.number) e))
done-set (Err (Record (Load k))) x e = absurd (omega (arith, ap (λ (g : Given). g.number) e))
done-set (Err (Record (Reach k))) x e = absurd (omega (arith, ap (λ (g : Given). g.number) e))
done-set (Err (Record (Blocked k))) x e = absurd (omega (arith, ap (λ (g : Given). g.number) e))

-- a flow's 2 and the record's 2 have the same number, and the same value where the flow and the cell have the same number
pub two-alike : (k : ℕ) → admit_given (Err (BadCell k)) ≡ admit_given (Err (Record (Load k)))
two-alike k = refl

-- the numbers and the values, in their order, of an answer of each kind
abbrev answers : (set flow cell row position : ℕ) → List (Result ℕ AdmitError)
answers set flow cell row position =
    Ok set ∷ Err TooMany ∷ Err NotNested ∷ Err (BadCell flow) ∷ Err (BadFlow flow) ∷ Err (BigShare flow) ∷ Err (Record Size) ∷ Err (Record Rule)
    ∷ Err (Record (Load cell)) ∷ Err (Record (Reach row)) ∷ Err (Record (Blocked position)) ∷ []

pub admit-numbers : (set flow cell row position : ℕ)
    → (map (λ (a : Result ℕ AdmitError). (admit_given a).number) (answers set flow cell row position)
    ≡ 0 ∷ 18 ∷ 19 ∷ 2 ∷ 15 ∷ 16 ∷ 1 ∷ 24 ∷ 2 ∷ 3 ∷ 20 ∷ [])
    × (map (λ (a : Result ℕ AdmitError). (admit_given a).values) (answers set flow cell row position)
    ≡ (set ∷ []) ∷ [] ∷ [] ∷ (flow ∷ []) ∷ (flow ∷ []) ∷ (flow ∷ []) ∷ [] ∷ [] ∷ (cell ∷ []) ∷ (row ∷ []) ∷ (position ∷ []) ∷ [])
admit-numbers set flow cell row position = (refl, refl)

-- ---- on top of the loads: 5 besides

-- 5 is no admission's number
not_five : (a : Result ℕ AdmitError) → eqb (admit_given a).number 5 ≡ false
not_five (Ok set) = refl
not_five (Err TooMany) = refl
not_five (Err NotNested) = refl
not_five (Err (BadCell flow)) = refl
not_five (Err (BadFlow flow)) = refl
not_five (Err (BigShare flow)) = refl
not_five (Err (Record Size)) = refl
not_five (Err (Record Rule)) = refl
not_five (Err (Record (Load k))) = refl
not_five (Err (Record (Reach k))) = refl
not_five (Err (Record (Blocked k))) = refl

abbrev beside_back : Bool → Given → Result ℕ BesideError
beside_back whole g = pick (eqb g.number 5) (Err (Over (get_or g.values 0 0) (get_or g.values 1 0))) (as_beside (read_back whole g))

beside_back-law : (a : Result ℕ BesideError) → beside_back (beside_record a) (beside_given a) ≡ a
beside_back-law (Ok set) = refl
beside_back-law (Err (Admit refused)) = rw (not_five (Err refused)) (ap as_beside (read_back-law (Err refused)))
beside_back-law (Err (Over cell excess)) = refl

pub beside-apart : (a b : Result ℕ BesideError) → beside_record a ≡ beside_record b → beside_given a ≡ beside_given b → a ≡ b
beside-apart a b r e = sym (beside_back-law a) ∙ ap₂ beside_back r e ∙ beside_back-law b

-- 0 with one value is a set, and nothing else
pub beside-done : (a : Result ℕ BesideError) (x : ℕ) → beside_given a ≡ record { number = 0; values = x ∷ [] } → a ≡ Ok x
beside-done (Ok set) x e = ap as_beside (done-set (Ok set) x e)
beside-done (Err (Admit refused)) x e = ap as_beside (done-set (Err refused) x e)
beside-done (Err (Over cell excess)) x e = absurd (omega (arith, ap (λ (g : Given). g.number) e))

-- 5 is given where the loads are over, and nowhere else
pub beside-five : (a : Result ℕ BesideError) (cell excess : ℕ) → beside_given a ≡ record { number = 5; values = cell ∷ excess ∷ [] }
    → a ≡ Err (Over cell excess)
beside-five (Ok set) cell excess e = absurd (omega (arith, ap (λ (g : Given). g.number) e))
beside-five (Err (Admit refused)) cell excess e =
    let is : eqb (admit_given (Err refused)).number 5 ≡ true = ap (λ (g : Given). eqb g.number 5) e in
    absurd (false≢true (sym (not_five (Err refused)) ∙ is))
beside-five (Err (Over c m)) cell excess e =
    let one : c ≡ cell = ap (λ (g : Given). get_or g.values 0 0) e in
    let two : m ≡ excess = ap (λ (g : Given). get_or g.values 1 0) e in
    ap₂ (λ (x y : ℕ). Err (Over x y)) one two

pub beside-numbers : (set flow cell excess row position : ℕ)
    → (map (λ (a : Result ℕ BesideError). (beside_given a).number) (Err (Over cell excess) ∷ map as_beside (answers set flow cell row position))
    ≡ 5 ∷ 0 ∷ 18 ∷ 19 ∷ 2 ∷ 15 ∷ 16 ∷ 1 ∷ 24 ∷ 2 ∷ 3 ∷ 20 ∷ [])
    × (map (λ (a : Result ℕ BesideError). (beside_given a).values) (Err (Over cell excess) ∷ map as_beside (answers set flow cell row position))
    ≡ (cell ∷ excess ∷ []) ∷ (set ∷ []) ∷ [] ∷ [] ∷ (flow ∷ []) ∷ (flow ∷ []) ∷ (flow ∷ []) ∷ [] ∷ [] ∷ (cell ∷ []) ∷ (row ∷ []) ∷ (position ∷ []) ∷ [])
beside-numbers set flow cell excess row position = (refl, refl)
