-- The second table form: "one 32-bit word for each position, bit i-1 set when cell i transmits; bits above I are read as silence and written as 0". Cells are
-- counted from 0. `words_of` of words/specs/Words.antt has the words of a table; here is what words say, and the bytes of a table.
use Rattle.std.specs.Prelude.{List, [], ◌++◌, ℕ, zero, suc, get_or}
use Rattle.laws.specs.Bits.{bit_at}
use Rattle.laws.specs.Part.{list_of}
use Rattle.laws.specs.Sum.{bit}
use Rattle.theory.specs.Net.{Reserved}

-- "bit i-1 set when cell i transmits". No bit at or above I is ever asked: it is silence.
abbrev pub sends_at : List ℕ → Reserved
sends_at words i k = bit_at (get_or words k 0) i

-- the bytes of a table of n positions, row after row: 1 where a cell is reserved, and 0 elsewhere
unfoldable pub bytes_of : ℕ → ℕ → Reserved → List ℕ
bytes_of zero n res = []
bytes_of (suc i) n res = bytes_of i n res ++ list_of (λ k. bit (res i k)) n
