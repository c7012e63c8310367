-- For any arguments one answer and one content of what is lent meet the contract, and no other, in crate `shortrows`: by its equalities alone.
-- Made by tools/surface from the source. Assumes nothing.
use Rattle.std.specs.Prelude.{List, not, refl, set, ℕ, ◌*◌, ◌≡◌}
use Rattle.contracts.specs.ShortrowsSays.{ShortrowsOpenWord, ShortrowsPlanShortRow}
use Rattle.laws.specs.Bits.{bit_at, bit_in, word_of}
use Rattle.planrows.specs.Row.{row_planned, row_short}
use Rattle.theory.specs.Greedy.{reserved}

-- shortrows::open_word
pub shortrows_open_word-one : (blocked : ℕ) (n : ℕ)
    → (r : ℕ) × (ShortrowsOpenWord blocked n r)
    × ((q : ℕ) → ShortrowsOpenWord blocked n q → (q ≡ r))
shortrows_open_word-one blocked n = (
  word_of (λ k. not (bit_at blocked k)) n,
  record { answer = refl },
  λ q says. says.answer,
)

-- shortrows::plan_short_row
pub shortrows_plan_short_row-one : (table : List ℕ) (held : List ℕ) (slots : ℕ) (channels : ℕ) (i : ℕ) (load : ℕ) (clash : List ℕ) (usable : ℕ)
    → (r : ℕ) × (table' : List ℕ) × (held' : List ℕ) × (ShortrowsPlanShortRow table held slots channels i load clash usable r table' held')
    × ((q : ℕ) (table'' : List ℕ) (held'' : List ℕ) → ShortrowsPlanShortRow table held slots channels i load clash usable q table'' held''
    → (q ≡ r) × (table'' ≡ table') × (held'' ≡ held'))
shortrows_plan_short_row-one table held slots channels i load clash usable = (
  row_short (slots * channels) (bit_in clash) (bit_at usable) i load table,
  row_planned (slots * channels) (bit_in clash) (bit_at usable) i load table,
  set held i (word_of (reserved (slots * channels) (row_planned (slots * channels) (bit_in clash) (bit_at usable) i load table) i) (slots * channels)),
  record { answer = refl; table_after = refl; held_after = refl },
  λ q table'' held'' says. (says.answer, says.table_after, says.held_after),
)
