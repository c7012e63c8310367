-- The parts of the lines of `duggfrask set`, one to a row. @1 is the value of a row.
use Prim.Native.String.{String}
use Rattle.std.specs.Prelude.{List, [], ◌∷◌}

unfoldable pub edit_lines : List String
edit_lines =
    "set: no edit is given; the edits are load, reach, clear, blocked, rule, slots and channels\n"
    ∷ "set: '"
    ∷ "' is no edit; the edits are load, reach, clear, blocked, rule, slots and channels\n"
    ∷ "set: after "
    ∷ " stands nothing"
    ∷ " stands '"
    ∷ "'"
    ∷ " "
    ∷ ": "
    ∷ "at character @1 stands no slot.channel of this site\n"
    ∷ "; it takes CELL=LOAD\n"
    ∷ "; it takes FROM-TO\n"
    ∷ "; it takes a LIST or none\n"
    ∷ "; it takes R\n"
    ∷ "; it takes T\n"
    ∷ "; it takes F\n"
    ∷ []
