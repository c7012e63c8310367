-- The equalities that the contracts of crate `say_room` state: r is the answer, and x' what a lent x holds afterwards.
-- Made by tools/surface from the source.
use Rattle.std.specs.Prelude.{List, Result, length, ℕ, ◌+◌, ◌≡◌}
use Rattle.finder.specs.declared.FindError.{FindError}
use Rattle.finder.specs.declared.Way.{Way}
use Rattle.phrases.specs.Phrases.{phrase}
use Rattle.say_room.specs.Lines.{room_lines}
use Rattle.say_room.specs.Said.{room_phrase, size_said, word_end}
use Rattle.site.specs.declared.Site.{Site}
use Rattle.std.proofs.lemmas.List.Edits.{sets}

-- say_room::put_word_end
pub record SayRoomPutWordEnd (out : List ℕ) (at : ℕ) (reply : Result Way FindError) (r : ℕ) (out' : List ℕ) : Type 0 where
  pub answer : r ≡ at + length (phrase room_lines (word_end reply))
  pub out_after : out' ≡ sets out at (phrase room_lines (word_end reply))

-- say_room::put_room
pub record SayRoomPutRoom (out : List ℕ) (at : ℕ) (site : Site) (i : ℕ) (reply : Result Way FindError) (r : ℕ) (out' : List ℕ) : Type 0 where
  pub answer : r ≡ at + length (phrase room_lines (room_phrase site i reply))
  pub out_after : out' ≡ sets out at (phrase room_lines (room_phrase site i reply))

-- say_room::put_size
pub record SayRoomPutSize (out : List ℕ) (at : ℕ) (site : Site) (reply : Result Way FindError) (r : ℕ) (out' : List ℕ) : Type 0 where
  pub answer : r ≡ at + length (size_said site reply)
  pub out_after : out' ≡ sets out at (size_said site reply)
