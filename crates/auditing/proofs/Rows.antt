-- The rows of the four forms in a table of sentences, computed: they stand one after the other, in the order of the forms. Assumes nothing.
use mathlib.Core.Path.{◌≡◌, refl}
use mathlib.Core.List.{[], ◌∷◌}
use Rattle.auditing.specs.Row.{form_row}
use Rattle.auditing.specs.declared.Form.{Form}
use Rattle.auditing.specs.declared.Form.TheVariants.{Chained, Nested, Renumbered, Neither}

pub rows-in-order : form_row 7 Chained ∷ form_row 7 Nested ∷ form_row 7 Renumbered ∷ form_row 7 Neither ∷ [] ≡ 7 ∷ 8 ∷ 9 ∷ 10 ∷ []
rows-in-order = refl
