-- For any arguments one answer and one content of what is lent meet the contract, and no other, in crate `say_loads`: by its equalities alone.
-- Made by tools/surface from the source. Assumes nothing.
use Rattle.std.specs.Prelude.{List, length, refl, ℕ, ◌+◌, ◌≡◌}
use Rattle.contracts.specs.SayLoadsSays.{SayLoadsBarScale, SayLoadsOpenSlots, SayLoadsPutBar, SayLoadsPutRoomLine}
use Rattle.drawing.specs.Loads.{bar_said, bar_scale, load_lines, room_line}
use Rattle.phrases.specs.Phrases.{phrase}
use Rattle.site.specs.Reach.{net_of}
use Rattle.site.specs.declared.Site.{Site}
use Rattle.std.proofs.lemmas.List.Edits.{sets}
use Rattle.theory.specs.Net.{room}

-- say_loads::open_slots
pub say_loads_open_slots-one : (site : Site)
    → (r : ℕ) × (SayLoadsOpenSlots site r)
    × ((q : ℕ) → SayLoadsOpenSlots site q → (q ≡ r))
say_loads_open_slots-one site = (
  room (net_of site),
  record { answer = refl },
  λ q says. says.answer,
)

-- say_loads::bar_scale
pub say_loads_bar_scale-one : (site : Site) (clash : List ℕ) (free : ℕ)
    → (r : ℕ) × (SayLoadsBarScale site clash free r)
    × ((q : ℕ) → SayLoadsBarScale site clash free q → (q ≡ r))
say_loads_bar_scale-one site clash free = (
  bar_scale site,
  record { answer = refl },
  λ q says. says.answer,
)

-- say_loads::put_bar
pub say_loads_put_bar-one : (out : List ℕ) (at : ℕ) (site : Site) (clash : List ℕ) (free : ℕ) (scale : ℕ) (i : ℕ)
    → (r : ℕ) × (out' : List ℕ) × (SayLoadsPutBar out at site clash free scale i r out')
    × ((q : ℕ) (out'' : List ℕ) → SayLoadsPutBar out at site clash free scale i q out'' → (q ≡ r) × (out'' ≡ out'))
say_loads_put_bar-one out at site clash free scale i = (
  at + length (bar_said site i),
  sets out at (bar_said site i),
  record { answer = refl; out_after = refl },
  λ q out'' says. (says.answer, says.out_after),
)

-- say_loads::put_room_line
pub say_loads_put_room_line-one : (out : List ℕ) (at : ℕ) (site : Site) (free : ℕ) (scale : ℕ)
    → (r : ℕ) × (out' : List ℕ) × (SayLoadsPutRoomLine out at site free scale r out')
    × ((q : ℕ) (out'' : List ℕ) → SayLoadsPutRoomLine out at site free scale q out'' → (q ≡ r) × (out'' ≡ out'))
say_loads_put_room_line-one out at site free scale = (
  at + length (phrase load_lines (room_line site)),
  sets out at (phrase load_lines (room_line site)),
  record { answer = refl; out_after = refl },
  λ q out'' says. (says.answer, says.out_after),
)
