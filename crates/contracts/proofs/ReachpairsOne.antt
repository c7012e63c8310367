-- For any arguments one answer and one content of what is lent meet the contract, and no other, in crate `reachpairs`: by its equalities alone.
-- Made by tools/surface from the source. Assumes nothing.
use Rattle.std.specs.Prelude.{List, Result, length, refl, ℕ, ◌≡◌}
use Rattle.contracts.specs.ReachpairsSays.{ReachpairsPairsLen, ReachpairsPutPairs, ReachpairsReadReach}
use Rattle.reachpairs.specs.Loop.{reach_read}
use Rattle.reachpairs.specs.Pairs.{pair_bytes}
use Rattle.records.specs.declared.Refusal.{Refusal}
use Rattle.std.proofs.lemmas.List.Edits.{sets}

-- reachpairs::read_reach
pub reachpairs_read_reach-one : (s : List ℕ) (at : ℕ) (cells : ℕ) (reach : List ℕ)
    → (r : Result Unit Refusal) × (reach' : List ℕ) × (ReachpairsReadReach s at cells reach r reach')
    × ((q : Result Unit Refusal) (reach'' : List ℕ) → ReachpairsReadReach s at cells reach q reach'' → (q ≡ r) × (reach'' ≡ reach'))
reachpairs_read_reach-one s at cells reach = (
  (reach_read s at cells).answer,
  (reach_read s at cells).reach,
  record { answer = refl; reach_after = refl },
  λ q reach'' says. (says.answer, says.reach_after),
)

-- reachpairs::pairs_len
pub reachpairs_pairs_len-one : (reach : List ℕ)
    → (r : ℕ) × (ReachpairsPairsLen reach r)
    × ((q : ℕ) → ReachpairsPairsLen reach q → (q ≡ r))
reachpairs_pairs_len-one reach = (
  length (pair_bytes reach),
  record { answer = refl },
  λ q says. says.answer,
)

-- reachpairs::put_pairs
pub reachpairs_put_pairs-one : (out : List ℕ) (at : ℕ) (reach : List ℕ) (end : ℕ)
    → (out' : List ℕ) × (ReachpairsPutPairs out at reach end out')
    × ((out'' : List ℕ) → ReachpairsPutPairs out at reach end out'' → (out'' ≡ out'))
reachpairs_put_pairs-one out at reach end = (
  sets out at (pair_bytes reach),
  record { out_after = refl },
  λ out'' says. says.out_after,
)
