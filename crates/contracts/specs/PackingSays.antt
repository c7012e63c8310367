-- The equalities that the contracts of crate `packing` state: r is the answer, and x' what a lent x holds afterwards.
-- Made by tools/surface from the source.
use Rattle.std.specs.Prelude.{List, ℕ, ◌≡◌}
use Rattle.laws.specs.Part.{list_of}
use Rattle.packing.specs.Packed.{in_row}
use Rattle.positions.specs.Blocked.{word_in}
use Rattle.std.proofs.lemmas.List.Edits.{sets}

-- packing::pack_words
pub record PackingPackWords (set : List ℕ) (row : List ℕ) (w : ℕ) (set' : List ℕ) : Type 0 where
  pub set_after : set' ≡ sets set 0 (list_of (word_in (in_row row)) w)
