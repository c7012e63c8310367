-- For any arguments one answer and one content of what is lent meet the contract, and no other, in crate `planbits`: by its equalities alone.
-- Made by tools/surface from the source. Assumes nothing.
use Rattle.std.specs.Prelude.{List, length, refl, ℕ, ◌≡◌}
use Rattle.contracts.specs.PlanbitsSays.{PlanbitsPutBits, PlanbitsUnpack}
use Rattle.planbits.specs.Bits.{bits_from, packed_from}
use Rattle.records.specs.Bits.{bytes_for}
use Rattle.std.proofs.lemmas.List.Edits.{sets}

-- planbits::unpack
pub planbits_unpack-one : (body : List ℕ) (table : List ℕ) (n : ℕ)
    → (table' : List ℕ) × (PlanbitsUnpack body table n table')
    × ((table'' : List ℕ) → PlanbitsUnpack body table n table'' → (table'' ≡ table'))
planbits_unpack-one body table n = (
  sets table 0 (bits_from body 0 n),
  record { table_after = refl },
  λ table'' says. says.table_after,
)

-- planbits::put_bits
pub planbits_put_bits-one : (table : List ℕ) (out : List ℕ) (at : ℕ)
    → (out' : List ℕ) × (PlanbitsPutBits table out at out')
    × ((out'' : List ℕ) → PlanbitsPutBits table out at out'' → (out'' ≡ out'))
planbits_put_bits-one table out at = (
  sets out at (packed_from table 0 (bytes_for (length table))),
  record { out_after = refl },
  λ out'' says. says.out_after,
)
