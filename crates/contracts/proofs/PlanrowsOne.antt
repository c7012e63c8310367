-- For any arguments one answer and one content of what is lent meet the contract, and no other, in crate `planrows`: by its equalities alone.
-- Made by tools/surface from the source. Assumes nothing.
use Rattle.std.specs.Prelude.{List, get_or, refl, ℕ, ◌*◌, ◌≡◌}
use Rattle.contracts.specs.PlanrowsSays.{PlanrowsGroupOf, PlanrowsNearOf, PlanrowsPlaceOf, PlanrowsPlanRow}
use Rattle.laws.specs.Bits.{bit_in, set_bit}
use Rattle.planrows.specs.Row.{marks_in, near_in, opens, row_planned}
use Rattle.rows.specs.Bars.{bar_row}
use Rattle.rows.specs.Stretch.{filled_by}
use Rattle.rows.specs.declared.Filled.{Filled}

-- planrows::near_of
pub planrows_near_of-one : (clash : List ℕ) (i : ℕ)
    → (r : ℕ) × (PlanrowsNearOf clash i r)
    × ((q : ℕ) → PlanrowsNearOf clash i q → (q ≡ r))
planrows_near_of-one clash i = (
  near_in clash i,
  record { answer = refl },
  λ q says. says.answer,
)

-- planrows::group_of
pub planrows_group_of-one : (clash : List ℕ) (i : ℕ)
    → (r : ℕ) × (PlanrowsGroupOf clash i r)
    × ((q : ℕ) → PlanrowsGroupOf clash i q → (q ≡ r))
planrows_group_of-one clash i = (
  set_bit (near_in clash i) i,
  record { answer = refl },
  λ q says. says.answer,
)

-- planrows::place_of
pub planrows_place_of-one : (places : List ℕ) (j : ℕ)
    → (r : ℕ) × (PlanrowsPlaceOf places j r)
    × ((q : ℕ) → PlanrowsPlaceOf places j q → (q ≡ r))
planrows_place_of-one places j = (
  get_or places j 0,
  record { answer = refl },
  λ q says. says.answer,
)

-- planrows::plan_row
pub planrows_plan_row-one : (table : List ℕ) (slots : ℕ) (channels : ℕ) (i : ℕ) (load : ℕ) (clash : List ℕ) (mask : List ℕ) (starts : List ℕ) (ends : List ℕ)
    → (r : Filled) × (table' : List ℕ) × (PlanrowsPlanRow table slots channels i load clash mask starts ends r table')
    × ((q : Filled) (table'' : List ℕ) → PlanrowsPlanRow table slots channels i load clash mask starts ends q table'' → (q ≡ r) × (table'' ≡ table'))
planrows_plan_row-one table slots channels i load clash mask starts ends = (
  filled_by slots channels load (bar_row (opens mask) 0 (marks_in (slots * channels) (bit_in clash) table i)),
  row_planned (slots * channels) (bit_in clash) (opens mask) i load table,
  record { answer = refl; table_after = refl },
  λ q table'' says. (says.answer, says.table_after),
)
