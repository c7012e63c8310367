-- A second cell more, as the loop counts. Assumes nothing.
use Prim.Native.Nat.{ℕ, ◌+◌}
use mathlib.Core.Path.{◌≡◌, ap}
use mathlib.Core.List.{List, ◌++◌}
use native.Mathlib.Numerals.{add-one}
use Rattle.phrases.specs.Phrases.{phrase}
use Rattle.say_clashes.specs.Lines.{clash_lines}
use Rattle.say_clashes.specs.Said.{clash_phrase, pairs_said}

pub pair-more : (rule : ℕ) (rows : List ℕ) (a b : ℕ)
    → pairs_said rule rows a (b + 1) ≡ pairs_said rule rows a b ++ phrase clash_lines (clash_phrase rule rows a b)
unfolding pairs_said
pair-more rule rows a b = ap (pairs_said rule rows a) (add-one b)
