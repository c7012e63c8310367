-- A second cell more, as the loop counts. Assumes nothing.
use Prim.Native.Nat.{ℕ, ◌+◌}
use mathlib.Core.Path.{◌≡◌, ap}
use mathlib.Core.List.{List, ◌++◌}
use native.Mathlib.Numerals.{add-one}
use Rattle.phrases.specs.Phrases.{phrase}
use Rattle.say_rule.specs.Lines.{rule_lines}
use Rattle.say_rule.specs.Said.{third_phrase, seconds_said}

pub second_more : (rows : List ℕ) (a b : ℕ) → seconds_said rows a (b + 1) ≡ seconds_said rows a b ++ phrase rule_lines (third_phrase rows a b)
unfolding seconds_said
second_more rows a b = ap (seconds_said rows a) (add-one b)
