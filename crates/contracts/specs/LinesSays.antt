-- The equalities that the contracts of crate `lines` state: r is the answer, and x' what a lent x holds afterwards.
-- Made by tools/surface from the source.
use Rattle.std.specs.Prelude.{List, Option, [], ℕ, ◌∷◌, ◌≡◌}
use Rattle.lines.specs.Content.{head_read, line_read, number_read}
use Rattle.lines.specs.Match.{eaten}
use Rattle.lines.specs.declared.Head.{Head}
use Rattle.lines.specs.declared.Line.{Line}
use Rattle.lines.specs.declared.Number.{Number}

-- lines::eat
pub record LinesEat (s : List ℕ) (at : ℕ) (b : ℕ) (r : ℕ) : Type 0 where
  pub answer : r ≡ eaten s at (b ∷ [])

-- lines::read_number
pub record LinesReadNumber (s : List ℕ) (at : ℕ) (most : ℕ) (r : Number) : Type 0 where
  pub answer : r ≡ number_read s at most

-- lines::eat_text
pub record LinesEatText (s : List ℕ) (at : ℕ) (text : List ℕ) (r : ℕ) : Type 0 where
  pub answer : r ≡ eaten s at text

-- lines::read_line
pub record LinesReadLine (s : List ℕ) (at : ℕ) (n : ℕ) (k : ℕ) (r : Option Line) : Type 0 where
  pub answer : r ≡ line_read s at n k

-- lines::read_head
pub record LinesReadHead (s : List ℕ) (r : Head) : Type 0 where
  pub answer : r ≡ head_read s
