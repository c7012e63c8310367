-- The positions of a block at which a cell meets the cells above it in its clash row, and the positions with a clash.
use Rattle.std.specs.Prelude.{Bool, ◌&&◌, List, [], ℕ, ◌+◌, ltb, leb, get_or}
use Rattle.laws.specs.Bits.{bit_at, bit_in}
use Rattle.laws.specs.Sum.{any}
use Rattle.theory.specs.Net.{unblocked}
use Rattle.theory.specs.Greedy.{reserved}
use Rattle.theory.specs.Verdict.{first_at}
use Rattle.site.specs.Reach.{net_in}
use Rattle.blocks.specs.Order.{placed}

-- whether the block of cell c, one of many, has position k
abbrev pub cell_placed : (lows highs : List ℕ) → (k c : ℕ) → Bool
cell_placed lows highs k c = placed (get_or lows c 0) (get_or highs c 0) k

-- whether a cell of the row from i on has position k
abbrev pub above_has : (lows highs : List ℕ) → (row i k : ℕ) → Bool
above_has lows highs row i k = any (λ c. (leb i c && bit_at row c) && cell_placed lows highs k c) 32

-- whether cells clash at position p, by a table with a row of n bytes for each cell, and the clash rows
abbrev pub clash_here : (cells n : ℕ) → (clash table : List ℕ) → ℕ → Bool
clash_here cells n clash table p = ltb (first_at (net_in cells n [] (bit_in clash) unblocked) (reserved n table) p) cells

-- the same of the positions from `from` on
abbrev pub clash_from : (cells n : ℕ) → (clash table : List ℕ) → (from k : ℕ) → Bool
clash_from cells n clash table from k = clash_here cells n clash table (from + k)
