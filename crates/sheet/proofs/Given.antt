-- The numbers and values given back tell the reader's answers apart: each answer can be read back from them. And what they are, written out. Assumes nothing.
use Prim.Native.Nat.{ℕ}
use mathlib.Core.Path.{◌≡◌, refl, sym, ap, ◌∙◌}
use mathlib.Core.List.{[], ◌∷◌, map}
use lib.Dec.{eqb}
use lib.ListN.{get_or}
use Rattle.laws.specs.Choice.{pick}
use Rattle.site.specs.Given.{Given, as_list}
use Rattle.site.specs.declared.Fault.TheVariants.{Size, Rule, Load, Reach, Blocked}
use Rattle.site.proofs.Given.{fault_from}
use Rattle.std.specs.Prelude.{Result, Ok, Err}
use Rattle.sheet.specs.Given.{sheet_given}
use Rattle.sheet.specs.declared.SheetError.{SheetError}
use Rattle.sheet.specs.declared.SheetError.TheVariants.{BadLine, Record}

abbrev read_back : Given → Result Unit SheetError
read_back g = pick (eqb g.number 0) (Ok tt) (pick (eqb g.number 17) (Err (BadLine (get_or g.values 0 0))) (Err (Record (fault_from g))))

read_back-law : (a : Result Unit SheetError) → read_back (sheet_given a) ≡ a
read_back-law (Ok u) = refl
read_back-law (Err (BadLine l)) = refl
read_back-law (Err (Record Size)) = refl
read_back-law (Err (Record Rule)) = refl
read_back-law (Err (Record (Load k))) = refl
read_back-law (Err (Record (Reach k))) = refl
read_back-law (Err (Record (Blocked k))) = refl

pub sheet-apart : (a b : Result Unit SheetError) → sheet_given a ≡ sheet_given b → a ≡ b
sheet-apart a b e = sym (read_back-law a) ∙ ap read_back e ∙ read_back-law b

-- the documents' numbers and values: done; 17 with the line; 1; 3 with the row; 20 with the position
pub sheet-numbers : (line row position : ℕ)
    → map (λ a. as_list (sheet_given a))
    (Ok tt ∷ Err (BadLine line) ∷ Err (Record Size) ∷ Err (Record Rule) ∷ Err (Record (Reach row)) ∷ Err (Record (Blocked position)) ∷ [])
    ≡ (0 ∷ []) ∷ (17 ∷ line ∷ []) ∷ (1 ∷ []) ∷ (24 ∷ []) ∷ (3 ∷ row ∷ []) ∷ (20 ∷ position ∷ []) ∷ []
sheet-numbers line row position = refl
