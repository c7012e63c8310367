-- For any arguments one answer and one content of what is lent meet the contract, and no other, in crate `rowapart`: by its equalities alone.
-- Made by tools/surface from the source. Assumes nothing.
use Rattle.std.specs.Prelude.{List, refl, ℕ, ◌*◌, ◌≡◌}
use Rattle.contracts.specs.RowapartSays.{RowapartMakeRow, RowapartMaskSize}
use Rattle.laws.specs.Bits.{bit_in}
use Rattle.planrows.specs.Row.{marks_in, opens}
use Rattle.rowapart.specs.Code.{mask_size}
use Rattle.rows.specs.Bars.{bar_row}
use Rattle.rows.specs.Stretch.{filled_by}
use Rattle.rows.specs.declared.Filled.{Filled}
use Rattle.theory.specs.Greedy.{fill}

-- rowapart::make_row
pub rowapart_make_row-one : (row : List ℕ) (table : List ℕ) (slots : ℕ) (channels : ℕ) (i : ℕ) (load : ℕ) (clash : List ℕ) (mask : List ℕ)
    (starts : List ℕ) (ends : List ℕ)
    → (r : Filled) × (row' : List ℕ) × (RowapartMakeRow row table slots channels i load clash mask starts ends r row')
    × ((q : Filled) (row'' : List ℕ) → RowapartMakeRow row table slots channels i load clash mask starts ends q row'' → (q ≡ r) × (row'' ≡ row'))
rowapart_make_row-one row table slots channels i load clash mask starts ends = (
  filled_by slots channels load (bar_row (opens mask) 0 (marks_in (slots * channels) (bit_in clash) table i)),
  fill (opens mask) 0 load (marks_in (slots * channels) (bit_in clash) table i),
  record { answer = refl; row_after = refl },
  λ q row'' says. (says.answer, says.row_after),
)

-- rowapart::mask_size
pub rowapart_mask_size-one : (blocked : List ℕ) (n : ℕ)
    → (r : ℕ) × (RowapartMaskSize blocked n r)
    × ((q : ℕ) → RowapartMaskSize blocked n q → (q ≡ r))
rowapart_mask_size-one blocked n = (
  mask_size blocked n,
  record { answer = refl },
  λ q says. says.answer,
)
