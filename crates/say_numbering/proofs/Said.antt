-- A cell more, as the loop counts. Assumes nothing.
use Prim.Native.Nat.{ℕ, ◌+◌}
use mathlib.Core.Path.{◌≡◌, ap}
use mathlib.Core.List.{List, ◌++◌}
use native.Mathlib.Numerals.{add-one}
use lib.ListN.{get_or}
use Rattle.phrases.specs.Phrases.{phrase}
use Rattle.say_numbering.specs.Lines.{number_lines}
use Rattle.say_numbering.specs.Said.{number_phrase, numbers_said}

pub number_more : (new : List ℕ) (i : ℕ) → numbers_said new (i + 1) ≡ numbers_said new i ++ phrase number_lines (number_phrase (i + 1) (get_or new i 0))
unfolding numbers_said
number_more new i = ap (numbers_said new) (add-one i)
