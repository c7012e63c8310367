-- The equalities that the contracts of crate `say_faults` state: r is the answer, and x' what a lent x holds afterwards.
-- Made by tools/surface from the source.
use Rattle.std.specs.Prelude.{Bool, List, length, ℕ, ◌+◌, ◌≡◌}
use Rattle.say_faults.specs.Said.{judgeable, piece_said, things_said}
use Rattle.say_faults.specs.declared.Piece.{Piece}
use Rattle.site.specs.declared.Site.{Site}
use Rattle.std.proofs.lemmas.List.Edits.{sets}

-- say_faults::can_judge
pub record SayFaultsCanJudge (site : Site) (table : List ℕ) (r : Bool) : Type 0 where
  pub answer : r ≡ judgeable site table

-- say_faults::put_piece
pub record SayFaultsPutPiece (out : List ℕ) (at : ℕ) (site : Site) (table : List ℕ) (clash : List ℕ) (piece : Piece) (r : ℕ) (out' : List ℕ) : Type 0 where
  pub answer : r ≡ at + length (piece_said site table piece site.cells)
  pub out_after : out' ≡ sets out at (piece_said site table piece site.cells)

-- say_faults::put_things
pub record SayFaultsPutThings (out : List ℕ) (at : ℕ) (site : Site) (table : List ℕ) (clash : List ℕ) (r : ℕ) (out' : List ℕ) : Type 0 where
  pub answer : r ≡ at + length (things_said site table)
  pub out_after : out' ≡ sets out at (things_said site table)
