-- What the reader of kind 4 asks of its caller.
use Rattle.std.specs.Prelude.{ℕ, List, ◌≡◌, Ok}
use Rattle.records.specs.Head.{cells_of_head, slots_of_head, channels_of_head, head_answer}

-- what the reader of kind 4 is given: a good head, and its numbers
pub record HeadRead (s : List ℕ) (cells slots channels : ℕ) : Type 0 where
  pub read : head_answer s ≡ Ok tt
  pub cells_are : cells ≡ cells_of_head s
  pub slots_are : slots ≡ slots_of_head s
  pub channels_are : channels ≡ channels_of_head s
