-- The equalities that the contracts of crate `escaping` state: r is the answer, and x' what a lent x holds afterwards.
-- Made by tools/surface from the source.
use Rattle.std.specs.Prelude.{List, length, ℕ, ◌+◌, ◌≡◌}
use Rattle.escaping.specs.Escaped.{escaped}
use Rattle.escaping.specs.Pieces.{whole_part}
use Rattle.std.proofs.lemmas.List.Edits.{sets}

-- escaping::put_escaped
pub record EscapingPutEscaped (out : List ℕ) (at : ℕ) (text : List ℕ) (r : ℕ) (out' : List ℕ) : Type 0 where
  pub answer : r ≡ at + length (escaped text)
  pub out_after : out' ≡ sets out at (escaped text)

-- escaping::whole_part
pub record EscapingWholePart (text : List ℕ) (r : ℕ) : Type 0 where
  pub answer : r ≡ whole_part text
