-- The numbering as the record that the code answers, and arrays in new numbers.
use Rattle.std.specs.Prelude.{◌&&◌, List, ℕ, ◌<◌, ltb, get_or, Option, Some, None}
use Rattle.laws.specs.Bits.{bit_in, word_of}
use Rattle.laws.specs.Choice.{pick}
use Rattle.laws.specs.Part.{list_of}
use Rattle.renumbering.specs.Numbering.{Numbering, numbered, stuck, index_at}
use Rattle.numberrows.specs.declared.Numbers.{Numbers}

abbrev pub numbers_of : Numbering → Option Numbers
numbers_of (numbered new old) = Some (record { new = new; old = old })
numbers_of stuck = None

-- the first n numbers of an array name cells
abbrev pub NamesCells : ℕ → List ℕ → Type 0
NamesCells n l = (a : ℕ) → a < n → (0 < get_or l a 0) × (index_at l a < n)

-- an array by old cells, in new numbers: what stood at the old number, and 0 past the n cells
unfoldable pub moved_by : List ℕ → ℕ → List ℕ → List ℕ
moved_by old n l = list_of (λ a. pick (ltb a n) (get_or l (index_at old a) 0) 0) 32

-- rows of bits by old cells, in new numbers: rows and bits
unfoldable pub moved_rows : List ℕ → ℕ → List ℕ → List ℕ
moved_rows old n rows = list_of (λ a. word_of (λ b. ltb a n && (ltb b n && bit_in rows (index_at old a) (index_at old b))) 32) 32
