-- For any arguments one answer and one content of what is lent meet the contract, and no other, in crate `reachrows`: by its equalities alone.
-- Made by tools/surface from the source. Assumes nothing.
use Rattle.std.specs.Prelude.{Bool, List, get_or, ltb, refl, replicate, ℕ, ◌≡◌}
use Rattle.contracts.specs.ReachrowsSays.{ReachrowsBadRow, ReachrowsExtraLoad, ReachrowsFewRows, ReachrowsManyRows, ReachrowsPairClashes, ReachrowsPutBit}
use Rattle.contracts.specs.ReachrowsSays.{ReachrowsThirdRows, ReachrowsWithBit}
use Rattle.laws.specs.Bits.{clear_bit, set_bit, word_of}
use Rattle.laws.specs.Choice.{pick}
use Rattle.laws.specs.Part.{list_of}
use Rattle.laws.specs.Search.{first}
use Rattle.reachrows.specs.Rows.{clash_in, row_bad}
use Rattle.std.proofs.lemmas.List.Edits.{sets}

-- reachrows::extra_load
pub reachrows_extra_load-one : (loads : List ℕ) (cells : ℕ)
    → (r : ℕ) × (ReachrowsExtraLoad loads cells r)
    × ((q : ℕ) → ReachrowsExtraLoad loads cells q → (q ≡ r))
reachrows_extra_load-one loads cells = (
  first (λ k. ltb 0 (get_or loads k 0)) cells 32,
  record { answer = refl },
  λ q says. says.answer,
)

-- reachrows::bad_row
pub reachrows_bad_row-one : (reach : List ℕ) (cells : ℕ)
    → (r : ℕ) × (ReachrowsBadRow reach cells r)
    × ((q : ℕ) → ReachrowsBadRow reach cells q → (q ≡ r))
reachrows_bad_row-one reach cells = (
  first (λ k. row_bad cells (get_or reach k 0) k) 0 32,
  record { answer = refl },
  λ q says. says.answer,
)

-- reachrows::few_rows
pub reachrows_few_rows-one : (reach : List ℕ) (cells : ℕ)
    → (r : List ℕ) × (ReachrowsFewRows reach cells r)
    × ((q : List ℕ) → ReachrowsFewRows reach cells q → (q ≡ r))
reachrows_few_rows-one reach cells = (
  sets (replicate 32 0) 0 (list_of (λ a. word_of (clash_in 1 reach a) cells) cells),
  record { answer = refl },
  λ q says. says.answer,
)

-- reachrows::many_rows
pub reachrows_many_rows-one : (reach : List ℕ) (cells : ℕ)
    → (r : List ℕ) × (ReachrowsManyRows reach cells r)
    × ((q : List ℕ) → ReachrowsManyRows reach cells q → (q ≡ r))
reachrows_many_rows-one reach cells = (
  sets (replicate 32 0) 0 (list_of (λ a. word_of (clash_in 1 reach a) cells) cells),
  record { answer = refl },
  λ q says. says.answer,
)

-- reachrows::third_rows
pub reachrows_third_rows-one : (reach : List ℕ) (cells : ℕ)
    → (r : List ℕ) × (ReachrowsThirdRows reach cells r)
    × ((q : List ℕ) → ReachrowsThirdRows reach cells q → (q ≡ r))
reachrows_third_rows-one reach cells = (
  sets (replicate 32 0) 0 (list_of (λ a. word_of (clash_in 2 reach a) cells) cells),
  record { answer = refl },
  λ q says. says.answer,
)

-- reachrows::pair_clashes
pub reachrows_pair_clashes-one : (reach : List ℕ) (rule : ℕ) (a : ℕ) (b : ℕ)
    → (r : Bool) × (ReachrowsPairClashes reach rule a b r)
    × ((q : Bool) → ReachrowsPairClashes reach rule a b q → (q ≡ r))
reachrows_pair_clashes-one reach rule a b = (
  clash_in rule reach a b,
  record { answer = refl },
  λ q says. says.answer,
)

-- reachrows::with_bit
pub reachrows_with_bit-one : (x : ℕ) (b : ℕ)
    → (r : ℕ) × (ReachrowsWithBit x b r)
    × ((q : ℕ) → ReachrowsWithBit x b q → (q ≡ r))
reachrows_with_bit-one x b = (
  set_bit x b,
  record { answer = refl },
  λ q says. says.answer,
)

-- reachrows::put_bit
pub reachrows_put_bit-one : (x : ℕ) (b : ℕ) (set : Bool)
    → (r : ℕ) × (ReachrowsPutBit x b set r)
    × ((q : ℕ) → ReachrowsPutBit x b set q → (q ≡ r))
reachrows_put_bit-one x b set = (
  pick set set_bit clear_bit x b,
  record { answer = refl },
  λ q says. says.answer,
)
