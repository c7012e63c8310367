-- What a C caller is told: document 01's number, and its values in the document's order; a value that the document does not name is 0.
use Rattle.std.specs.Prelude.{ℕ, [], ◌∷◌, get_or}
use Rattle.site.specs.Given.{Given}
use Rattle.numbering.specs.Given.{renumber_given}
use Rattle.numbering.specs.declared.Renumbered.{Renumbered}
use Rattle.told.specs.declared.Answer.{Answer}
use Rattle.told.specs.declared.RenumberedC.{RenumberedC}

-- a number and three values
abbrev pub numbered : ℕ → ℕ → ℕ → ℕ → Answer
numbered n a b c = record { number = n; value = a ∷ b ∷ c ∷ [] }

-- what is given back, as a C caller gets it
unfoldable pub told : Given → Answer
told g = numbered g.number (get_or g.values 0 0) (get_or g.values 1 0) (get_or g.values 2 0)

-- the site and the numbers as the call gave them, and the answer as told
unfoldable pub told_renumbered : Renumbered → RenumberedC
told_renumbered e = record { site = e.site; new = e.new; old = e.old; answer = told (renumber_given e.answer) }
