-- For any arguments one answer and one content of what is lent meet the contract, and no other, in crate `sets`: by its equalities alone.
-- Made by tools/surface from the source. Assumes nothing.
use Rattle.std.specs.Prelude.{List, get_or, ltb, not, refl, ℕ, ◌&&◌, ◌*◌, ◌+◌, ◌-◌, ◌||◌, ◌≡◌}
use Rattle.contracts.specs.SetsSays.{SetsFirstPositions, SetsJoinSet, SetsKeepAll, SetsMeetOf, SetsPackCell, SetsPackRow, SetsPutSet, SetsSetSize, SetsTakeAway}
use Rattle.contracts.specs.SetsSays.{SetsTakeFirst, SetsUnlikeCount}
use Rattle.laws.specs.Choice.{pick}
use Rattle.laws.specs.Few.{first_few}
use Rattle.laws.specs.Part.{list_of}
use Rattle.laws.specs.Sum.{count}
use Rattle.packing.specs.Packed.{in_row}
use Rattle.sets.specs.Pack.{in_cell}
use Rattle.sets.specs.Sets.{in_set, set_in}
use Rattle.std.proofs.lemmas.List.Edits.{sets}

-- sets::set_size
pub sets_set_size-one : (set : List ℕ) (w : ℕ)
    → (r : ℕ) × (SetsSetSize set w r)
    × ((q : ℕ) → SetsSetSize set w q → (q ≡ r))
sets_set_size-one set w = (
  count (in_set set) (64 * w),
  record { answer = refl },
  λ q says. says.answer,
)

-- sets::keep_all
pub sets_keep_all-one : (set : List ℕ) (w : ℕ)
    → (set' : List ℕ) × (SetsKeepAll set w set')
    × ((set'' : List ℕ) → SetsKeepAll set w set'' → (set'' ≡ set'))
sets_keep_all-one set w = (
  sets set 0 (set_in (in_set set) w),
  record { set_after = refl },
  λ set'' says. says.set_after,
)

-- sets::take_first
pub sets_take_first-one : (set : List ℕ) (w : ℕ) (m : ℕ)
    → (r : ℕ) × (set' : List ℕ) × (SetsTakeFirst set w m r set')
    × ((q : ℕ) (set'' : List ℕ) → SetsTakeFirst set w m q set'' → (q ≡ r) × (set'' ≡ set'))
sets_take_first-one set w m = (
  m - count (in_set set) (64 * w),
  sets set 0 (set_in (first_few (in_set set) m) w),
  record { answer = refl; set_after = refl },
  λ q set'' says. (says.answer, says.set_after),
)

-- sets::meet_of
pub sets_meet_of-one : (to : List ℕ) (a : List ℕ) (b : List ℕ) (w : ℕ)
    → (to' : List ℕ) × (SetsMeetOf to a b w to')
    × ((to'' : List ℕ) → SetsMeetOf to a b w to'' → (to'' ≡ to'))
sets_meet_of-one to a b w = (
  sets to 0 (set_in (λ k. in_set a k && in_set b k) w),
  record { to_after = refl },
  λ to'' says. says.to_after,
)

-- sets::unlike_count
pub sets_unlike_count-one : (a : List ℕ) (b : List ℕ) (w : ℕ)
    → (r : ℕ) × (SetsUnlikeCount a b w r)
    × ((q : ℕ) → SetsUnlikeCount a b w q → (q ≡ r))
sets_unlike_count-one a b w = (
  count (λ k. pick (in_set b k) (not (in_set a k)) (in_set a k)) (64 * w),
  record { answer = refl },
  λ q says. says.answer,
)

-- sets::join_set
pub sets_join_set-one : (set : List ℕ) (with : List ℕ) (w : ℕ)
    → (set' : List ℕ) × (SetsJoinSet set with w set')
    × ((set'' : List ℕ) → SetsJoinSet set with w set'' → (set'' ≡ set'))
sets_join_set-one set with w = (
  sets set 0 (set_in (λ k. in_set set k || in_set with k) w),
  record { set_after = refl },
  λ set'' says. says.set_after,
)

-- sets::take_away
pub sets_take_away-one : (set : List ℕ) (with : List ℕ) (at : ℕ) (w : ℕ)
    → (set' : List ℕ) × (SetsTakeAway set with at w set')
    × ((set'' : List ℕ) → SetsTakeAway set with at w set'' → (set'' ≡ set'))
sets_take_away-one set with at w = (
  sets set 0 (set_in (λ k. in_set set k && not (in_set with (64 * at + k))) w),
  record { set_after = refl },
  λ set'' says. says.set_after,
)

-- sets::put_set
pub sets_put_set-one : (out : List ℕ) (at : ℕ) (set : List ℕ) (w : ℕ)
    → (out' : List ℕ) × (SetsPutSet out at set w out')
    × ((out'' : List ℕ) → SetsPutSet out at set w out'' → (out'' ≡ out'))
sets_put_set-one out at set w = (
  sets out at (list_of (λ j. get_or set j 0) w),
  record { out_after = refl },
  λ out'' says. says.out_after,
)

-- sets::first_positions
pub sets_first_positions-one : (set : List ℕ) (w : ℕ) (n : ℕ)
    → (set' : List ℕ) × (SetsFirstPositions set w n set')
    × ((set'' : List ℕ) → SetsFirstPositions set w n set'' → (set'' ≡ set'))
sets_first_positions-one set w n = (
  sets set 0 (set_in (λ k. ltb k n) w),
  record { set_after = refl },
  λ set'' says. says.set_after,
)

-- sets::pack_row
pub sets_pack_row-one : (set : List ℕ) (row : List ℕ) (w : ℕ)
    → (set' : List ℕ) × (SetsPackRow set row w set')
    × ((set'' : List ℕ) → SetsPackRow set row w set'' → (set'' ≡ set'))
sets_pack_row-one set row w = (
  sets set 0 (set_in (in_row row) w),
  record { set_after = refl },
  λ set'' says. says.set_after,
)

-- sets::pack_cell
pub sets_pack_cell-one : (set : List ℕ) (table : List ℕ) (w : ℕ) (n : ℕ) (i : ℕ)
    → (set' : List ℕ) × (SetsPackCell set table w n i set')
    × ((set'' : List ℕ) → SetsPackCell set table w n i set'' → (set'' ≡ set'))
sets_pack_cell-one set table w n i = (
  sets set 0 (set_in (in_cell n table i) w),
  record { set_after = refl },
  λ set'' says. says.set_after,
)
