-- The equalities that the contracts of crate `reachpairs` state: r is the answer, and x' what a lent x holds afterwards.
-- Made by tools/surface from the source.
use Rattle.std.specs.Prelude.{List, Result, length, ℕ, ◌≡◌}
use Rattle.reachpairs.specs.Loop.{reach_read}
use Rattle.reachpairs.specs.Pairs.{pair_bytes}
use Rattle.records.specs.declared.Refusal.{Refusal}
use Rattle.std.proofs.lemmas.List.Edits.{sets}

-- reachpairs::read_reach
pub record ReachpairsReadReach (s : List ℕ) (at : ℕ) (cells : ℕ) (reach : List ℕ) (r : Result Unit Refusal) (reach' : List ℕ) : Type 0 where
  pub answer : r ≡ (reach_read s at cells).answer
  pub reach_after : reach' ≡ (reach_read s at cells).reach

-- reachpairs::pairs_len
pub record ReachpairsPairsLen (reach : List ℕ) (r : ℕ) : Type 0 where
  pub answer : r ≡ length (pair_bytes reach)

-- reachpairs::put_pairs
pub record ReachpairsPutPairs (out : List ℕ) (at : ℕ) (reach : List ℕ) (end : ℕ) (out' : List ℕ) : Type 0 where
  pub out_after : out' ≡ sets out at (pair_bytes reach)
