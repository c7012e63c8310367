-- What the loops over the pairs of kind 3 are about, and its reader: the record read by itself, and the pairs of one row written.
use Rattle.std.specs.Prelude.{ℕ, zero, suc, ◌+◌, List, [], ◌++◌, Result, Ok, Err}
use Rattle.records.specs.Layout.{body_at}
use Rattle.records.specs.Reasons.{first_reason}
use Rattle.records.specs.declared.Refusal.{Refusal}
use Rattle.reachpairs.specs.Pairs.{all_zero, reach_of_body, pair_of}
use Rattle.reachpairs.specs.Reasons.{pair_reasons, reach_reasons}

-- what the reader of the last record leaves and answers: its rows, or none beside a refusal
pub record PairsRead : Type 0 where
  pub reach : List ℕ
  pub answer : Result Unit Refusal

abbrev pub no_rows : Result Unit Refusal → PairsRead
no_rows answer = record { reach = all_zero; answer = answer }

unfoldable pub pairs_read_of : List ℕ → Result Unit Refusal → PairsRead
pairs_read_of rows (Ok u) = record { reach = rows; answer = Ok tt }
pairs_read_of rows (Err r) = no_rows (Err r)

-- the pairs of its body, and the whole record at an offset
unfoldable pub pairs_read : ℕ → ℕ → List ℕ → PairsRead
pairs_read cells at body = pairs_read_of (reach_of_body body) (first_reason (pair_reasons cells at 0 0 body))

unfoldable pub reach_read : List ℕ → ℕ → ℕ → PairsRead
reach_read s at cells = pairs_read_of (reach_of_body (body_at s at)) (first_reason (reach_reasons s at cells))

-- the bytes of the pairs at n places of a row, from q on
unfoldable pub row_from : ℕ → ℕ → ℕ → List ℕ
row_from row q zero = []
row_from row q (suc n) = pair_of row q ++ row_from row (q + 1) n
