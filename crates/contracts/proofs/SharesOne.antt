-- For any arguments one answer and one content of what is lent meet the contract, and no other, in crate `shares`: by its equalities alone.
-- Made by tools/surface from the source. Assumes nothing.
use Rattle.std.specs.Prelude.{Result, refl, ◌≡◌}
use Rattle.contracts.specs.SharesSays.{DefaultRepeats, Share, ShareOf}
use Rattle.shares.specs.Share.{default_repeats, share_of}
use Rattle.shares.specs.declared.Fragments.{Fragments}
use Rattle.shares.specs.declared.Repeats.{Repeats}
use Rattle.shares.specs.declared.ShareError.{ShareError}
use Rattle.shares.specs.declared.Slots.{Slots}

-- shares::share_of
pub share_of-one : (slots : Slots) (burst : Fragments) (period : Slots) (repeats : Repeats)
    → (r : Result (Fragments × Fragments × Slots) ShareError) × (ShareOf slots burst period repeats r)
    × ((q : Result (Fragments × Fragments × Slots) ShareError) → ShareOf slots burst period repeats q → (q ≡ r))
share_of-one slots burst period repeats = (
  share_of slots.0 burst.0 period.0 repeats.0,
  record { answer = refl },
  λ q says. says.answer,
)

-- shares::default_repeats
pub default_repeats-one : (r : Repeats) × (DefaultRepeats r)
    × ((q : Repeats) → DefaultRepeats q → (q ≡ r))
default_repeats-one = (
  record { 0 = default_repeats },
  record { answer = refl },
  λ q says. says.answer,
)

-- shares::share
pub share-one : (slots : Slots) (burst : Fragments) (period : Slots)
    → (r : Result (Fragments × Fragments × Slots) ShareError) × (Share slots burst period r)
    × ((q : Result (Fragments × Fragments × Slots) ShareError) → Share slots burst period q → (q ≡ r))
share-one slots burst period = (
  share_of slots.0 burst.0 period.0 default_repeats,
  record { answer = refl },
  λ q says. says.answer,
)
