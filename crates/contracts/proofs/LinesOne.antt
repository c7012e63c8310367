-- For any arguments one answer and one content of what is lent meet the contract, and no other, in crate `lines`: by its equalities alone.
-- Made by tools/surface from the source. Assumes nothing.
use Rattle.std.specs.Prelude.{List, Option, [], refl, ℕ, ◌∷◌, ◌≡◌}
use Rattle.contracts.specs.LinesSays.{LinesEat, LinesEatText, LinesReadHead, LinesReadLine, LinesReadNumber}
use Rattle.lines.specs.Content.{head_read, line_read, number_read}
use Rattle.lines.specs.Match.{eaten}
use Rattle.lines.specs.declared.Head.{Head}
use Rattle.lines.specs.declared.Line.{Line}
use Rattle.lines.specs.declared.Number.{Number}

-- lines::eat
pub lines_eat-one : (s : List ℕ) (at : ℕ) (b : ℕ)
    → (r : ℕ) × (LinesEat s at b r)
    × ((q : ℕ) → LinesEat s at b q → (q ≡ r))
lines_eat-one s at b = (
  eaten s at (b ∷ []),
  record { answer = refl },
  λ q says. says.answer,
)

-- lines::read_number
pub lines_read_number-one : (s : List ℕ) (at : ℕ) (most : ℕ)
    → (r : Number) × (LinesReadNumber s at most r)
    × ((q : Number) → LinesReadNumber s at most q → (q ≡ r))
lines_read_number-one s at most = (
  number_read s at most,
  record { answer = refl },
  λ q says. says.answer,
)

-- lines::eat_text
pub lines_eat_text-one : (s : List ℕ) (at : ℕ) (text : List ℕ)
    → (r : ℕ) × (LinesEatText s at text r)
    × ((q : ℕ) → LinesEatText s at text q → (q ≡ r))
lines_eat_text-one s at text = (
  eaten s at text,
  record { answer = refl },
  λ q says. says.answer,
)

-- lines::read_line
pub lines_read_line-one : (s : List ℕ) (at : ℕ) (n : ℕ) (k : ℕ)
    → (r : Option Line) × (LinesReadLine s at n k r)
    × ((q : Option Line) → LinesReadLine s at n k q → (q ≡ r))
lines_read_line-one s at n k = (
  line_read s at n k,
  record { answer = refl },
  λ q says. says.answer,
)

-- lines::read_head
pub lines_read_head-one : (s : List ℕ)
    → (r : Head) × (LinesReadHead s r)
    × ((q : Head) → LinesReadHead s q → (q ≡ r))
lines_read_head-one s = (
  head_read s,
  record { answer = refl },
  λ q says. says.answer,
)
