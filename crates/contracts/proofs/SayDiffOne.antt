-- For any arguments one answer and one content of what is lent meet the contract, and no other, in crate `say_diff`: by its equalities alone.
-- Made by tools/surface from the source. Assumes nothing.
use Rattle.std.specs.Prelude.{List, length, refl, ℕ, ◌+◌, ◌≡◌}
use Rattle.contracts.specs.SayDiffSays.{SayDiffPutChangeCount}
use Rattle.say_diff.specs.Said.{diff_said}
use Rattle.site.specs.declared.Site.{Site}
use Rattle.std.proofs.lemmas.List.Edits.{sets}

-- say_diff::put_change_count
pub say_diff_put_change_count-one : (out : List ℕ) (at : ℕ) (site : Site) (old : List ℕ) (new : List ℕ)
    → (r : ℕ) × (out' : List ℕ) × (SayDiffPutChangeCount out at site old new r out')
    × ((q : ℕ) (out'' : List ℕ) → SayDiffPutChangeCount out at site old new q out'' → (q ≡ r) × (out'' ≡ out'))
say_diff_put_change_count-one out at site old new = (
  at + length (diff_said site old new),
  sets out at (diff_said site old new),
  record { answer = refl; out_after = refl },
  λ q out'' says. (says.answer, says.out_after),
)
