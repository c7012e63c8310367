-- The bits of a plan. "Table index k has byte k/8, weight 2 to the power k mod 8; left-over bits are 0."
use Rattle.std.specs.Prelude.{ℕ, zero, suc, ◌+◌, ◌*◌, List, [], ◌∷◌, get_or, take}
use Rattle.laws.specs.Sum.{bit}
use Rattle.records.specs.Bits.{bytes_for, bit_of}
use Rattle.theory.specs.Greedy.{sends}

-- the bit of a table byte: "1 for reserved"
unfoldable pub one : ℕ → ℕ
one x = bit (sends x)

-- the n bits from index k on, as table bytes
unfoldable pub bits_from : List ℕ → ℕ → ℕ → List ℕ
bits_from s k zero = []
bits_from s k (suc n) = bit_of s k ∷ bits_from s (suc k) n

-- the number whose bits are the c table bytes from index k on, the first with weight 1; past the table's end they are 0
unfoldable pub ones : List ℕ → ℕ → ℕ → ℕ
ones t k zero = 0
ones t k (suc c) = one (get_or t k 0) + 2 * ones t (suc k) c

-- the m bytes of the bits from index k on
unfoldable pub packed_from : List ℕ → ℕ → ℕ → List ℕ
packed_from t k zero = []
packed_from t k (suc m) = ones t k 8 ∷ packed_from t (k + 8) m

-- the bits of the first n table bytes
abbrev pub packed : List ℕ → ℕ → List ℕ
packed t n = packed_from (take n t) 0 (bytes_for n)
