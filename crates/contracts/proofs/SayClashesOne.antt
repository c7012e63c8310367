-- For any arguments one answer and one content of what is lent meet the contract, and no other, in crate `say_clashes`: by its equalities alone.
-- Made by tools/surface from the source. Assumes nothing.
use Rattle.std.specs.Prelude.{List, length, refl, ℕ, ◌+◌, ◌≡◌}
use Rattle.contracts.specs.SayClashesSays.{SayClashesPutClashCount, SayClashesPutClashes}
use Rattle.say_clashes.specs.Said.{clash_count_said, clashes_said}
use Rattle.site.specs.declared.Site.{Site}
use Rattle.std.proofs.lemmas.List.Edits.{sets}

-- say_clashes::put_clashes
pub say_clashes_put_clashes-one : (out : List ℕ) (at : ℕ) (site : Site) (a : ℕ)
    → (r : ℕ) × (out' : List ℕ) × (SayClashesPutClashes out at site a r out')
    × ((q : ℕ) (out'' : List ℕ) → SayClashesPutClashes out at site a q out'' → (q ≡ r) × (out'' ≡ out'))
say_clashes_put_clashes-one out at site a = (
  at + length (clashes_said site a),
  sets out at (clashes_said site a),
  record { answer = refl; out_after = refl },
  λ q out'' says. (says.answer, says.out_after),
)

-- say_clashes::put_clash_count
pub say_clashes_put_clash_count-one : (out : List ℕ) (at : ℕ) (site : Site)
    → (r : ℕ) × (out' : List ℕ) × (SayClashesPutClashCount out at site r out')
    × ((q : ℕ) (out'' : List ℕ) → SayClashesPutClashCount out at site q out'' → (q ≡ r) × (out'' ≡ out'))
say_clashes_put_clash_count-one out at site = (
  at + length (clash_count_said site),
  sets out at (clash_count_said site),
  record { answer = refl; out_after = refl },
  λ q out'' says. (says.answer, says.out_after),
)
