-- A record of a house file. "Each record: length, two bytes, counting what follows it; kind, two bytes; body."
use Rattle.std.specs.Prelude.{ℕ, ◌+◌, ◌-◌, List, [], ◌∷◌, ◌++◌, length, take, drop}
use Rattle.records.specs.Bytes.{le16, two_bytes_each}

-- the record's bytes
abbrev pub record_of : ℕ → List ℕ → List ℕ
record_of kind body = two_bytes_each ((2 + length body) ∷ kind ∷ []) ++ body

-- of the record at an offset: its body, and where it ends
abbrev pub body_at : List ℕ → ℕ → List ℕ
body_at s at = take (le16 s at - 2) (drop (at + 4) s)

abbrev pub record_end : List ℕ → ℕ → ℕ
record_end s at = at + 2 + le16 s at
