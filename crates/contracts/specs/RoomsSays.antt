-- The equalities that the contracts of crate `rooms` state: r is the answer, and x' what a lent x holds afterwards.
-- Made by tools/surface from the source.
use Rattle.std.specs.Prelude.{Result, ℕ, ◌≡◌}
use Rattle.rooms.specs.Room.{room_answer}
use Rattle.rooms.specs.declared.Room.{Room}
use Rattle.site.specs.declared.Fault.{Fault}
use Rattle.site.specs.declared.Site.{Site}

-- rooms::room_of
pub record RoomOf (site : Site) (cell : ℕ) (r : Result Room Fault) : Type 0 where
  pub answer : r ≡ room_answer site cell
