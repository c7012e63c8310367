-- What is said of the room of a site, computed letter by letter. Assumes nothing.
use mathlib.Core.List.{[], ◌∷◌}
use mathlib.Core.Path.{◌≡◌, refl}
use Rattle.text.specs.Decimal.{digits_of, decimal}
use Rattle.speech.specs.Speech.{bytes, spoken}
use Rattle.phrases.specs.Phrases.{phrase}
use Rattle.std.specs.Prelude.{Ok, Err}
use Rattle.finder.specs.declared.Way.TheVariants.{Greedy}
use Rattle.finder.specs.declared.FindError.TheVariants.{Full, NotKnown}
use Rattle.rooms.specs.declared.Room.TheVariants.{Exactly, AtLeast}
use Rattle.say_room.specs.Lines.{room_lines}
use Rattle.say_room.specs.Said.{more_phrase, word_end, slots_enough, open_enough, slots_said, open_said_of}

cells-said :
    phrase room_lines (more_phrase 1 6 (Ok (Exactly 5))) ∷ phrase room_lines (more_phrase 2 5 (Ok (Exactly 0)))
    ∷ phrase room_lines (more_phrase 3 1 (Ok (AtLeast 0))) ∷ phrase room_lines (word_end (Err (Full 3))) ∷ phrase room_lines (word_end (Err (NotKnown 10)))
    ∷ phrase room_lines (word_end (Ok Greedy)) ∷ []
    ≡ bytes "cell 1, load 6: 5 more, and no more than that\n" ∷ bytes "cell 2, load 5: no more\n" ∷ bytes "cell 3, load 1: at least 0 more\n"
    ∷ bytes ": no cell can carry more\n" ∷ bytes ": whether it has a plan\n" ∷ [] ∷ []
unfolding room_lines spoken decimal digits_of
cells-said = refl

slots-said :
    slots_said 6 6 8 ∷ slots_said 8 8 8 ∷ slots_said 9 9 8 ∷ slots_said 2 3 3 ∷ slots_said 1 1 3 ∷ slots_said 7 129 3 ∷ slots_said 129 200 8 ∷ []
    ≡ bytes "slots: 6 will do, 2 fewer than it has; with fewer no plan exists\n"
    ∷ bytes "slots: 8 will do, as many as it has; with fewer no plan exists\n"
    ∷ bytes "slots: 9 will do, 1 more than it has; with fewer no plan exists\n"
    ∷ bytes "slots: 3 will do, as many as it has; with fewer than 2 no plan exists\n"
    ∷ bytes "slots: 1 will do, 2 fewer than it has\n"
    ∷ bytes "slots: with fewer than 7 no plan exists\n"
    ∷ bytes "slots: 128, the most that a site has, are too few\n" ∷ []
unfolding room_lines spoken decimal digits_of
slots-said = refl

open_said :
    open_said_of 11 11 12 ∷ open_said_of 12 12 12 ∷ open_said_of 11 14 12 ∷ []
    ≡ bytes "open channel-slots: 11 will do, 1 fewer than it has; with fewer no plan exists\n"
    ∷ bytes "open channel-slots: 12 will do, as many as it has; with fewer no plan exists\n"
    ∷ bytes "open channel-slots: 14 will do, 2 more than it has; with fewer than 11 no plan exists\n" ∷ []
unfolding room_lines spoken decimal digits_of
open_said = refl

-- a plan that is found with fewer positions than the load test asks, and none
enough : open_enough (Ok Greedy) 4 6 ∷ open_enough (Ok Greedy) 6 4 ∷ open_enough (Err (Full 3)) 4 6 ∷ slots_enough (Ok Greedy) 4 6 2 2 ∷ [] ≡ 4 ∷ 4 ∷ 6 ∷ 2 ∷ []
enough = refl
