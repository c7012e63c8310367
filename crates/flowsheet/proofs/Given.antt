-- The numbers and values given back tell the reader's answers apart: each answer can be read back from them. And what they are, written out. Assumes nothing.
use Prim.Native.Nat.{ℕ}
use mathlib.Core.Path.{◌≡◌, refl, sym, ap, ◌∙◌}
use mathlib.Core.List.{[], ◌∷◌, map}
use lib.Dec.{eqb}
use lib.ListN.{get_or}
use Rattle.laws.specs.Choice.{pick}
use Rattle.site.specs.Given.{Given, as_list}
use Rattle.flowsheet.specs.Given.{flows_given}
use Rattle.std.specs.Prelude.{Result, Ok, Err}
use Rattle.flowsheet.specs.declared.FlowsError.{FlowsError}
use Rattle.flowsheet.specs.declared.FlowsError.TheVariants.{BadLine, TooMany}

abbrev back : Given → Result Unit FlowsError
back g = pick (eqb g.number 0) (Ok tt) (pick (eqb g.number 17) (Err (BadLine (get_or g.values 0 0))) (Err TooMany))

read_back-law : (a : Result Unit FlowsError) → back (flows_given a) ≡ a
read_back-law (Ok u) = refl
read_back-law (Err (BadLine l)) = refl
read_back-law (Err TooMany) = refl

pub flows-apart : (a b : Result Unit FlowsError) → flows_given a ≡ flows_given b → a ≡ b
flows-apart a b e = sym (read_back-law a) ∙ ap back e ∙ read_back-law b

-- done; 17 with the line; 18
pub flows-numbers : (line : ℕ)
    → map (λ a. as_list (flows_given a)) (Ok tt ∷ Err (BadLine line) ∷ Err TooMany ∷ [])
    ≡ (0 ∷ []) ∷ (17 ∷ line ∷ []) ∷ (18 ∷ []) ∷ []
flows-numbers line = refl
