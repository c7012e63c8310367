-- The first parts of a line of an audit, computed letter by letter. Assumes nothing.
use mathlib.Core.Path.{◌≡◌, refl}
use mathlib.Core.List.{List, [], ◌∷◌}
use Prim.Native.Nat.{ℕ}
use Rattle.text.specs.Decimal.{digits_of, decimal}
use Rattle.speech.specs.Speech.{bytes, spoken}
use Rattle.phrases.specs.Phrases.{phrase}
use Rattle.say_audit.specs.Lines.{audit_lines, chained_form, nested_form, renumbered_form, neither_form}
use Rattle.say_audit.specs.Said.{takes_of_phrase}
use Rattle.site.specs.Record.{site_of}
use Rattle.auditing.specs.Row.{form_row, form_phrase}
use Rattle.auditing.specs.declared.Form.{Form}
use Rattle.auditing.specs.declared.Form.TheVariants.{Chained, Nested, Renumbered, Neither}

-- the row of each form is the one of its name
form-rows :
    form_row chained_form Chained ∷ form_row chained_form Nested ∷ form_row chained_form Renumbered ∷ form_row chained_form Neither ∷ []
    ≡ chained_form ∷ nested_form ∷ renumbered_form ∷ neither_form ∷ []
form-rows = refl

-- what is said of a site of these sizes and this rule: the first part of `audited_said`
abbrev said : Form → (cells slots channels rule : ℕ) → List ℕ
said form cells slots channels rule = phrase audit_lines (form_phrase chained_form (site_of cells slots channels [] [] [] rule) form)

forms-said :
    said Chained 5 8 2 1 ∷ said Nested 1 1 1 1 ∷ said Renumbered 4 2 1 1 ∷ said Neither 4 2 1 2 ∷ []
    ≡ bytes ": 5 cells, 8 slots, 2 channels, rule 1, chained; " ∷ bytes ": 1 cell, 1 slot, 1 channel, rule 1, nested; "
    ∷ bytes ": 4 cells, 2 slots, 1 channel, rule 1, renumbered; " ∷ bytes ": 4 cells, 2 slots, 1 channel, rule 2, neither; " ∷ []
unfolding audit_lines spoken decimal digits_of
forms-said = refl

takes-said :
    phrase audit_lines (takes_of_phrase (record { needs = 11; enough = 11 }) 16) ∷ phrase audit_lines (takes_of_phrase (record { needs = 2; enough = 3 }) 2)
    ∷ []
    ≡ bytes "; takes 11 of 16" ∷ bytes "; takes 2 to 3 of 2" ∷ []
unfolding audit_lines spoken decimal digits_of takes_of_phrase
takes-said = refl
