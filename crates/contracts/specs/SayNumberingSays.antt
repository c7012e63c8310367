-- The equalities that the contracts of crate `say_numbering` state: r is the answer, and x' what a lent x holds afterwards.
-- Made by tools/surface from the source.
use Rattle.std.specs.Prelude.{List, Result, length, ℕ, ◌+◌, ◌≡◌}
use Rattle.numbering.specs.declared.CarryError.{CarryError}
use Rattle.numbering.specs.declared.RenumberError.{RenumberError}
use Rattle.say_numbering.specs.Anew.{anew_said}
use Rattle.say_numbering.specs.Said.{carry_said, renumber_said}
use Rattle.site.specs.declared.Site.{Site}
use Rattle.std.proofs.lemmas.List.Edits.{sets}

-- say_numbering::put_renumber
pub record SayNumberingPutRenumber (out : List ℕ) (at : ℕ) (new : List ℕ) (reply : Result Unit RenumberError) (r : ℕ) (out' : List ℕ) : Type 0 where
  pub answer : r ≡ at + length (renumber_said new reply)
  pub out_after : out' ≡ sets out at (renumber_said new reply)

-- say_numbering::put_carry
pub record SayNumberingPutCarry (out : List ℕ) (at : ℕ) (reply : Result Unit CarryError) (r : ℕ) (out' : List ℕ) : Type 0 where
  pub answer : r ≡ at + length (carry_said reply)
  pub out_after : out' ≡ sets out at (carry_said reply)

-- say_numbering::put_anew
pub record SayNumberingPutAnew (out : List ℕ) (at : ℕ) (site : Site) (r : ℕ) (out' : List ℕ) : Type 0 where
  pub answer : r ≡ at + length (anew_said site)
  pub out_after : out' ≡ sets out at (anew_said site)
