-- The equalities that the contracts of crate `planbits` state: r is the answer, and x' what a lent x holds afterwards.
-- Made by tools/surface from the source.
use Rattle.std.specs.Prelude.{List, length, ℕ, ◌≡◌}
use Rattle.planbits.specs.Bits.{bits_from, packed_from}
use Rattle.records.specs.Bits.{bytes_for}
use Rattle.std.proofs.lemmas.List.Edits.{sets}

-- planbits::unpack
pub record PlanbitsUnpack (body : List ℕ) (table : List ℕ) (n : ℕ) (table' : List ℕ) : Type 0 where
  pub table_after : table' ≡ sets table 0 (bits_from body 0 n)

-- planbits::put_bits
pub record PlanbitsPutBits (table : List ℕ) (out : List ℕ) (at : ℕ) (out' : List ℕ) : Type 0 where
  pub out_after : out' ≡ sets out at (packed_from table 0 (bytes_for (length table)))
