-- For any arguments one answer and one content of what is lent meet the contract, and no other, in crate `bestset`: by its equalities alone.
-- Made by tools/surface from the source. Assumes nothing.
use Rattle.std.specs.Prelude.{List, refl, ℕ, ◌≡◌}
use Rattle.bestset.specs.Code.{best_in}
use Rattle.contracts.specs.BestsetSays.{BestsetBestSet}

-- bestset::best_set
pub bestset_best_set-one : (rooms : List ℕ) (clash : List ℕ) (cell : List ℕ) (share : List ℕ) (value : List ℕ) (count : ℕ)
    → (r : ℕ) × (BestsetBestSet rooms clash cell share value count r)
    × ((q : ℕ) → BestsetBestSet rooms clash cell share value count q → (q ≡ r))
bestset_best_set-one rooms clash cell share value count = (
  best_in rooms clash cell share value count,
  record { answer = refl },
  λ q says. says.answer,
)
