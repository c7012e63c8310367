-- The equalities that the contracts of crate `putblocks` state: r is the answer, and x' what a lent x holds afterwards.
-- Made by tools/surface from the source.
use Rattle.std.specs.Prelude.{List, length, ℕ, ◌+◌, ◌≡◌}
use Rattle.putblocks.specs.Canon.{blocked_text}
use Rattle.std.proofs.lemmas.List.Edits.{sets}

-- putblocks::put_blocked
pub record PutblocksPutBlocked (out : List ℕ) (at : ℕ) (set : List ℕ) (slots : ℕ) (channels : ℕ) (r : ℕ) (out' : List ℕ) : Type 0 where
  pub answer : r ≡ at + length (blocked_text set slots channels)
  pub out_after : out' ≡ sets out at (blocked_text set slots channels)
