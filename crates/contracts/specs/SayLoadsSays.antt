-- The equalities that the contracts of crate `say_loads` state: r is the answer, and x' what a lent x holds afterwards.
-- Made by tools/surface from the source.
use Rattle.std.specs.Prelude.{List, length, ℕ, ◌+◌, ◌≡◌}
use Rattle.drawing.specs.Loads.{bar_said, bar_scale, load_lines, room_line}
use Rattle.phrases.specs.Phrases.{phrase}
use Rattle.site.specs.Reach.{net_of}
use Rattle.site.specs.declared.Site.{Site}
use Rattle.std.proofs.lemmas.List.Edits.{sets}
use Rattle.theory.specs.Net.{room}

-- say_loads::open_slots
pub record SayLoadsOpenSlots (site : Site) (r : ℕ) : Type 0 where
  pub answer : r ≡ room (net_of site)

-- say_loads::bar_scale
pub record SayLoadsBarScale (site : Site) (clash : List ℕ) (free : ℕ) (r : ℕ) : Type 0 where
  pub answer : r ≡ bar_scale site

-- say_loads::put_bar
pub record SayLoadsPutBar (out : List ℕ) (at : ℕ) (site : Site) (clash : List ℕ) (free : ℕ) (scale : ℕ) (i : ℕ) (r : ℕ) (out' : List ℕ) : Type 0 where
  pub answer : r ≡ at + length (bar_said site i)
  pub out_after : out' ≡ sets out at (bar_said site i)

-- say_loads::put_room_line
pub record SayLoadsPutRoomLine (out : List ℕ) (at : ℕ) (site : Site) (free : ℕ) (scale : ℕ) (r : ℕ) (out' : List ℕ) : Type 0 where
  pub answer : r ≡ at + length (phrase load_lines (room_line site))
  pub out_after : out' ≡ sets out at (phrase load_lines (room_line site))
