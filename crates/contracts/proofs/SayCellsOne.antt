-- For any arguments one answer and one content of what is lent meet the contract, and no other, in crate `say_cells`: by its equalities alone.
-- Made by tools/surface from the source. Assumes nothing.
use Rattle.std.specs.Prelude.{List, length, refl, ℕ, ◌+◌, ◌≡◌}
use Rattle.contracts.specs.SayCellsSays.{SayCellsPutSender}
use Rattle.say_cells.specs.Cells.{sender_line}
use Rattle.say_cells.specs.declared.SentAs.{SentAs}
use Rattle.site.specs.declared.Site.{Site}
use Rattle.std.proofs.lemmas.List.Edits.{sets}

-- say_cells::put_sender
pub say_cells_put_sender-one : (out : List ℕ) (site : Site) (table : List ℕ) (kind : SentAs) (i : ℕ)
    → (r : ℕ) × (out' : List ℕ) × (SayCellsPutSender out site table kind i r out')
    × ((q : ℕ) (out'' : List ℕ) → SayCellsPutSender out site table kind i q out'' → (q ≡ r) × (out'' ≡ out'))
say_cells_put_sender-one out site table kind i = (
  0 + length (sender_line site table kind i),
  sets out 0 (sender_line site table kind i),
  record { answer = refl; out_after = refl },
  λ q out'' says. (says.answer, says.out_after),
)
