-- For any arguments one answer and one content of what is lent meet the contract, and no other, in crate `packing`: by its equalities alone.
-- Made by tools/surface from the source. Assumes nothing.
use Rattle.std.specs.Prelude.{List, refl, ℕ, ◌≡◌}
use Rattle.contracts.specs.PackingSays.{PackingPackWords}
use Rattle.laws.specs.Part.{list_of}
use Rattle.packing.specs.Packed.{in_row}
use Rattle.positions.specs.Blocked.{word_in}
use Rattle.std.proofs.lemmas.List.Edits.{sets}

-- packing::pack_words
pub packing_pack_words-one : (set : List ℕ) (row : List ℕ) (w : ℕ)
    → (set' : List ℕ) × (PackingPackWords set row w set')
    × ((set'' : List ℕ) → PackingPackWords set row w set'' → (set'' ≡ set'))
packing_pack_words-one set row w = (
  sets set 0 (list_of (word_in (in_row row)) w),
  record { set_after = refl },
  λ set'' says. says.set_after,
)
