-- One flow more, as the loop counts. Assumes nothing.
use Prim.Native.Nat.{ℕ, ◌+◌}
use mathlib.Core.List.{◌++◌}
use mathlib.Core.Path.{◌≡◌, ap}
use native.Mathlib.Numerals.{add-one}
use Rattle.flowlist.specs.declared.Flow.{Flow}
use Rattle.phrases.specs.Phrases.{phrase}
use Rattle.say_flows.specs.Lines.{admit_lines}
use Rattle.say_flows.specs.Said.{flow_phrase, list_said}

pub list-more : (slots set : ℕ) (f : ℕ → Flow) (k : ℕ) → list_said slots set f (k + 1)
    ≡ list_said slots set f k ++ phrase admit_lines (flow_phrase slots set (f k) k)
unfolding list_said
list-more slots set f k = ap (list_said slots set f) (add-one k)
