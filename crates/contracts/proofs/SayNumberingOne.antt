-- For any arguments one answer and one content of what is lent meet the contract, and no other, in crate `say_numbering`: by its equalities alone.
-- Made by tools/surface from the source. Assumes nothing.
use Rattle.std.specs.Prelude.{List, Result, length, refl, ℕ, ◌+◌, ◌≡◌}
use Rattle.contracts.specs.SayNumberingSays.{SayNumberingPutAnew, SayNumberingPutCarry, SayNumberingPutRenumber}
use Rattle.numbering.specs.declared.CarryError.{CarryError}
use Rattle.numbering.specs.declared.RenumberError.{RenumberError}
use Rattle.say_numbering.specs.Anew.{anew_said}
use Rattle.say_numbering.specs.Said.{carry_said, renumber_said}
use Rattle.site.specs.declared.Site.{Site}
use Rattle.std.proofs.lemmas.List.Edits.{sets}

-- say_numbering::put_renumber
pub say_numbering_put_renumber-one : (out : List ℕ) (at : ℕ) (new : List ℕ) (reply : Result Unit RenumberError)
    → (r : ℕ) × (out' : List ℕ) × (SayNumberingPutRenumber out at new reply r out')
    × ((q : ℕ) (out'' : List ℕ) → SayNumberingPutRenumber out at new reply q out'' → (q ≡ r) × (out'' ≡ out'))
say_numbering_put_renumber-one out at new reply = (
  at + length (renumber_said new reply),
  sets out at (renumber_said new reply),
  record { answer = refl; out_after = refl },
  λ q out'' says. (says.answer, says.out_after),
)

-- say_numbering::put_carry
pub say_numbering_put_carry-one : (out : List ℕ) (at : ℕ) (reply : Result Unit CarryError)
    → (r : ℕ) × (out' : List ℕ) × (SayNumberingPutCarry out at reply r out')
    × ((q : ℕ) (out'' : List ℕ) → SayNumberingPutCarry out at reply q out'' → (q ≡ r) × (out'' ≡ out'))
say_numbering_put_carry-one out at reply = (
  at + length (carry_said reply),
  sets out at (carry_said reply),
  record { answer = refl; out_after = refl },
  λ q out'' says. (says.answer, says.out_after),
)

-- say_numbering::put_anew
pub say_numbering_put_anew-one : (out : List ℕ) (at : ℕ) (site : Site)
    → (r : ℕ) × (out' : List ℕ) × (SayNumberingPutAnew out at site r out')
    × ((q : ℕ) (out'' : List ℕ) → SayNumberingPutAnew out at site q out'' → (q ≡ r) × (out'' ≡ out'))
say_numbering_put_anew-one out at site = (
  at + length (anew_said site),
  sets out at (anew_said site),
  record { answer = refl; out_after = refl },
  λ q out'' says. (says.answer, says.out_after),
)
