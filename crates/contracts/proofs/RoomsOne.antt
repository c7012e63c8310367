-- For any arguments one answer and one content of what is lent meet the contract, and no other, in crate `rooms`: by its equalities alone.
-- Made by tools/surface from the source. Assumes nothing.
use Rattle.std.specs.Prelude.{Result, refl, ℕ, ◌≡◌}
use Rattle.contracts.specs.RoomsSays.{RoomOf}
use Rattle.rooms.specs.Room.{room_answer}
use Rattle.rooms.specs.declared.Room.{Room}
use Rattle.site.specs.declared.Fault.{Fault}
use Rattle.site.specs.declared.Site.{Site}

-- rooms::room_of
pub room_of-one : (site : Site) (cell : ℕ)
    → (r : Result Room Fault) × (RoomOf site cell r)
    × ((q : Result Room Fault) → RoomOf site cell q → (q ≡ r))
room_of-one site cell = (
  room_answer site cell,
  record { answer = refl },
  λ q says. says.answer,
)
