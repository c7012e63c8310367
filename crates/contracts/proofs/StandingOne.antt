-- For any arguments one answer and one content of what is lent meet the contract, and no other, in crate `standing`: by its equalities alone.
-- Made by tools/surface from the source. Assumes nothing.
use Rattle.std.specs.Prelude.{List, Result, refl, ℕ, ◌≡◌}
use Rattle.contracts.specs.StandingSays.{StandingStandAll}
use Rattle.standing.specs.Stand.{stood_by}
use Rattle.standing.specs.Turns.{packed_rows, turned_by}
use Rattle.standing.specs.declared.Short.{Short}

-- standing::stand_all
pub standing_stand_all-one : (stands : List ℕ) (old : List ℕ) (table : List ℕ) (w : ℕ) (n : ℕ) (cells : ℕ) (loads : List ℕ) (clash : List ℕ) (blocked : List ℕ)
    → (r : Result ℕ Short) × (stands' : List ℕ) × (old' : List ℕ) × (StandingStandAll stands old table w n cells loads clash blocked r stands' old')
    × ((q : Result ℕ Short) (stands'' : List ℕ) (old'' : List ℕ) → StandingStandAll stands old table w n cells loads clash blocked q stands'' old''
    → (q ≡ r) × (stands'' ≡ stands') × (old'' ≡ old'))
standing_stand_all-one stands old table w n cells loads clash blocked = (
  stood_by cells n loads clash blocked table,
  turned_by w cells n loads clash blocked table stands,
  packed_rows w n table old cells,
  record { answer = refl; stands_after = refl; old_after = refl },
  λ q stands'' old'' says. (says.answer, says.stands_after, says.old_after),
)
