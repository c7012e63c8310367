-- The equalities that the contracts of crate `text` state: r is the answer, and x' what a lent x holds afterwards.
-- Made by tools/surface from the source.
use Rattle.std.specs.Prelude.{List, length, ℕ, ◌+◌, ◌≡◌}
use Rattle.std.proofs.lemmas.List.Edits.{sets}
use Rattle.text.specs.Decimal.{decimal}

-- text::put_text
pub record TextPutText (out : List ℕ) (at : ℕ) (text : List ℕ) (r : ℕ) (out' : List ℕ) : Type 0 where
  pub answer : r ≡ at + length text
  pub out_after : out' ≡ sets out at text

-- text::put_few
pub record TextPutFew (out : List ℕ) (at : ℕ) (x : ℕ) (r : ℕ) (out' : List ℕ) : Type 0 where
  pub answer : r ≡ at + length (decimal x)
  pub out_after : out' ≡ sets out at (decimal x)

-- text::put_number
pub record TextPutNumber (out : List ℕ) (at : ℕ) (x : ℕ) (r : ℕ) (out' : List ℕ) : Type 0 where
  pub answer : r ≡ at + length (decimal x)
  pub out_after : out' ≡ sets out at (decimal x)
