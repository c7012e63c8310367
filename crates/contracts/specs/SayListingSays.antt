-- The equalities that the contracts of crate `say_listing` state: r is the answer, and x' what a lent x holds afterwards.
-- Made by tools/surface from the source.
use Rattle.std.specs.Prelude.{List, length, ℕ, ◌+◌, ◌≡◌}
use Rattle.phrases.specs.Phrases.{phrase}
use Rattle.phrases.specs.declared.Phrase.{Phrase}
use Rattle.say_listing.specs.Lines.{cell_listed, listing_lines}
use Rattle.std.proofs.lemmas.List.Edits.{sets}

-- say_listing::put_line
pub record SayListingPutLine (out : List ℕ) (at : ℕ) (what : Phrase) (r : ℕ) (out' : List ℕ) : Type 0 where
  pub answer : r ≡ at + length (phrase listing_lines what)
  pub out_after : out' ≡ sets out at (phrase listing_lines what)

-- say_listing::put_cell_line
pub record SayListingPutCellLine (out : List ℕ) (cell : ℕ) (channels : ℕ) (row : List ℕ) (r : ℕ) (out' : List ℕ) : Type 0 where
  pub answer : r ≡ 0 + length (cell_listed cell channels row)
  pub out_after : out' ≡ sets out 0 (cell_listed cell channels row)
