-- For any arguments one answer and one content of what is lent meet the contract, and no other, in crate `say_room`: by its equalities alone.
-- Made by tools/surface from the source. Assumes nothing.
use Rattle.std.specs.Prelude.{List, Result, length, refl, ℕ, ◌+◌, ◌≡◌}
use Rattle.contracts.specs.SayRoomSays.{SayRoomPutRoom, SayRoomPutSize, SayRoomPutWordEnd}
use Rattle.finder.specs.declared.FindError.{FindError}
use Rattle.finder.specs.declared.Way.{Way}
use Rattle.phrases.specs.Phrases.{phrase}
use Rattle.say_room.specs.Lines.{room_lines}
use Rattle.say_room.specs.Said.{room_phrase, size_said, word_end}
use Rattle.site.specs.declared.Site.{Site}
use Rattle.std.proofs.lemmas.List.Edits.{sets}

-- say_room::put_word_end
pub say_room_put_word_end-one : (out : List ℕ) (at : ℕ) (reply : Result Way FindError)
    → (r : ℕ) × (out' : List ℕ) × (SayRoomPutWordEnd out at reply r out')
    × ((q : ℕ) (out'' : List ℕ) → SayRoomPutWordEnd out at reply q out'' → (q ≡ r) × (out'' ≡ out'))
say_room_put_word_end-one out at reply = (
  at + length (phrase room_lines (word_end reply)),
  sets out at (phrase room_lines (word_end reply)),
  record { answer = refl; out_after = refl },
  λ q out'' says. (says.answer, says.out_after),
)

-- say_room::put_room
pub say_room_put_room-one : (out : List ℕ) (at : ℕ) (site : Site) (i : ℕ) (reply : Result Way FindError)
    → (r : ℕ) × (out' : List ℕ) × (SayRoomPutRoom out at site i reply r out')
    × ((q : ℕ) (out'' : List ℕ) → SayRoomPutRoom out at site i reply q out'' → (q ≡ r) × (out'' ≡ out'))
say_room_put_room-one out at site i reply = (
  at + length (phrase room_lines (room_phrase site i reply)),
  sets out at (phrase room_lines (room_phrase site i reply)),
  record { answer = refl; out_after = refl },
  λ q out'' says. (says.answer, says.out_after),
)

-- say_room::put_size
pub say_room_put_size-one : (out : List ℕ) (at : ℕ) (site : Site) (reply : Result Way FindError)
    → (r : ℕ) × (out' : List ℕ) × (SayRoomPutSize out at site reply r out')
    × ((q : ℕ) (out'' : List ℕ) → SayRoomPutSize out at site reply q out'' → (q ≡ r) × (out'' ≡ out'))
say_room_put_size-one out at site reply = (
  at + length (size_said site reply),
  sets out at (size_said site reply),
  record { answer = refl; out_after = refl },
  λ q out'' says. (says.answer, says.out_after),
)
