-- The numbers given back tell the answers of each call apart. An answer is read back from its number and values. Assumes nothing.
use mathlib.Core.Path.{◌≡◌, refl, sym, ap, ◌∙◌}
use mathlib.Core.List.{[], ◌∷◌, map}
use Prim.Native.Nat.{ℕ}
use lib.Dec.{eqb}
use Rattle.std.specs.Prelude.{Result, Ok, Err}
use Rattle.laws.specs.Choice.{pick}
use Rattle.site.specs.Given.{Given, as_list}
use Rattle.site.proofs.Given.{fault_from}
use Rattle.site.specs.declared.Fault.TheVariants.{Size, Rule, Load, Reach, Blocked}
use Rattle.numbering.specs.Given.{renumber_given, carry_given}
use Rattle.numbering.specs.declared.RenumberError.{RenumberError}
use Rattle.numbering.specs.declared.RenumberError.TheVariants as renumber
use Rattle.numbering.specs.declared.CarryError.{CarryError}
use Rattle.numbering.specs.declared.CarryError.TheVariants as carry

-- ---- `renumber`

abbrev renumber_from : Given → Result Unit RenumberError
renumber_from g = pick (eqb g.number 0) (Ok tt) (pick (eqb g.number 23) (Err renumber.NoNumbering) (Err (renumber.Record (fault_from g))))

renumber-back : (a : Result Unit RenumberError) → renumber_from (renumber_given a) ≡ a
renumber-back (Ok u) = refl
renumber-back (Err renumber.NoNumbering) = refl
renumber-back (Err (renumber.Record Size)) = refl
renumber-back (Err (renumber.Record Rule)) = refl
renumber-back (Err (renumber.Record (Load k))) = refl
renumber-back (Err (renumber.Record (Reach k))) = refl
renumber-back (Err (renumber.Record (Blocked k))) = refl

pub renumber-apart : (a b : Result Unit RenumberError) → renumber_given a ≡ renumber_given b → a ≡ b
renumber-apart a b e = sym (renumber-back a) ∙ ap renumber_from e ∙ renumber-back b

-- ---- `carry`

abbrev carry_from : Given → Result Unit CarryError
carry_from g =
    pick (eqb g.number 0) (Ok tt)
    (pick (eqb g.number 23) (Err carry.NoNumbering) (pick (eqb g.number 4) (Err carry.TableShort) (Err (carry.Record (fault_from g)))))

carry_back : (a : Result Unit CarryError) → carry_from (carry_given a) ≡ a
carry_back (Ok u) = refl
carry_back (Err carry.NoNumbering) = refl
carry_back (Err carry.TableShort) = refl
carry_back (Err (carry.Record Size)) = refl
carry_back (Err (carry.Record Rule)) = refl
carry_back (Err (carry.Record (Load k))) = refl
carry_back (Err (carry.Record (Reach k))) = refl
carry_back (Err (carry.Record (Blocked k))) = refl

pub carry-apart : (a b : Result Unit CarryError) → carry_given a ≡ carry_given b → a ≡ b
carry-apart a b e = sym (carry_back a) ∙ ap carry_from e ∙ carry_back b

-- the numbers and the values, in their order, of an answer of each kind
pub numbering-numbers : (cell row position : ℕ)
    → (map (λ (a : Result Unit RenumberError). as_list (renumber_given a))
    (Ok tt ∷ Err renumber.NoNumbering ∷ Err (renumber.Record Size) ∷ Err (renumber.Record (Load cell)) ∷ Err (renumber.Record (Reach row))
    ∷ Err (renumber.Record (Blocked position)) ∷ [])
    ≡ (0 ∷ []) ∷ (23 ∷ []) ∷ (1 ∷ []) ∷ (2 ∷ cell ∷ []) ∷ (3 ∷ row ∷ []) ∷ (20 ∷ position ∷ []) ∷ [])
    × (map (λ (a : Result Unit CarryError). as_list (carry_given a))
    (Ok tt ∷ Err carry.NoNumbering ∷ Err carry.TableShort ∷ Err (carry.Record Size) ∷ Err (carry.Record (Load cell)) ∷ Err (carry.Record (Reach row))
    ∷ Err (carry.Record (Blocked position)) ∷ [])
    ≡ (0 ∷ []) ∷ (23 ∷ []) ∷ (4 ∷ []) ∷ (1 ∷ []) ∷ (2 ∷ cell ∷ []) ∷ (3 ∷ row ∷ []) ∷ (20 ∷ position ∷ []) ∷ [])
numbering-numbers cell row position = (refl, refl)
