-- For any arguments one answer and one content of what is lent meet the contract, and no other, in crate `say_faults`: by its equalities alone.
-- Made by tools/surface from the source. Assumes nothing.
use Rattle.std.specs.Prelude.{Bool, List, length, refl, ℕ, ◌+◌, ◌≡◌}
use Rattle.contracts.specs.SayFaultsSays.{SayFaultsCanJudge, SayFaultsPutPiece, SayFaultsPutThings}
use Rattle.say_faults.specs.Said.{judgeable, piece_said, things_said}
use Rattle.say_faults.specs.declared.Piece.{Piece}
use Rattle.site.specs.declared.Site.{Site}
use Rattle.std.proofs.lemmas.List.Edits.{sets}

-- say_faults::can_judge
pub say_faults_can_judge-one : (site : Site) (table : List ℕ)
    → (r : Bool) × (SayFaultsCanJudge site table r)
    × ((q : Bool) → SayFaultsCanJudge site table q → (q ≡ r))
say_faults_can_judge-one site table = (
  judgeable site table,
  record { answer = refl },
  λ q says. says.answer,
)

-- say_faults::put_piece
pub say_faults_put_piece-one : (out : List ℕ) (at : ℕ) (site : Site) (table : List ℕ) (clash : List ℕ) (piece : Piece)
    → (r : ℕ) × (out' : List ℕ) × (SayFaultsPutPiece out at site table clash piece r out')
    × ((q : ℕ) (out'' : List ℕ) → SayFaultsPutPiece out at site table clash piece q out'' → (q ≡ r) × (out'' ≡ out'))
say_faults_put_piece-one out at site table clash piece = (
  at + length (piece_said site table piece site.cells),
  sets out at (piece_said site table piece site.cells),
  record { answer = refl; out_after = refl },
  λ q out'' says. (says.answer, says.out_after),
)

-- say_faults::put_things
pub say_faults_put_things-one : (out : List ℕ) (at : ℕ) (site : Site) (table : List ℕ) (clash : List ℕ)
    → (r : ℕ) × (out' : List ℕ) × (SayFaultsPutThings out at site table clash r out')
    × ((q : ℕ) (out'' : List ℕ) → SayFaultsPutThings out at site table clash q out'' → (q ≡ r) × (out'' ≡ out'))
say_faults_put_things-one out at site table clash = (
  at + length (things_said site table),
  sets out at (things_said site table),
  record { answer = refl; out_after = refl },
  λ q out'' says. (says.answer, says.out_after),
)
