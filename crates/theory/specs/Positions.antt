-- The greedy plan by positions. At a position the cells that still have fragments left are taken in rising number where they clash with none taken there,
-- so the word depends only on which cells are still in need. That this is the run by cells, `greedy` of specs/Greedy.antt, is proved in proofs/Positions.antt.
use Rattle.std.specs.Prelude.{Bool, false, ◌&&◌, not, ℕ, zero, suc, ◌-◌, ltb, eqb}
use Rattle.laws.specs.Choice.{pick}
use Rattle.laws.specs.Search.{first}
use Rattle.laws.specs.Sum.{bit, any}
use Rattle.theory.specs.Net.{Net, Reserved}

-- whether cell j is among those below n that a position takes, where `need` says which cells are in need:
-- each in its turn, if it clashes with none taken before it
unfoldable pub chosen_to : (ℕ → ℕ → Bool) → (ℕ → Bool) → ℕ → ℕ → Bool
chosen_to clash need zero j = false
chosen_to clash need (suc n) j = pick (eqb j n) (need n && not (any (λ m. clash m n && chosen_to clash need n m) n)) (chosen_to clash need n j)

-- whether a position takes cell i: the cells above it do not matter
abbrev pub chosen : (ℕ → ℕ → Bool) → (ℕ → Bool) → ℕ → Bool
chosen clash need i = chosen_to clash need (suc i) i

-- what cell i has left of its load before position k: one fragment less after each usable position that took it
unfoldable pub left_at : Net → ℕ → ℕ → ℕ
left_at s zero i = s.load i
left_at s (suc k) i = left_at s k i - bit (s.usable k && chosen s.clash (λ j. ltb 0 (left_at s k j)) i)

-- which cells are still in need, at position k
abbrev pub need_at : Net → ℕ → ℕ → Bool
need_at s k i = ltb 0 (left_at s k i)

-- whether cell i takes position k
abbrev pub takes : Net → Reserved
takes s i k = s.usable k && chosen s.clash (need_at s k) i

-- "The first cell whose load can't be met": the lowest cell below n that has something left at the end; n where none has
abbrev pub short_cell : Net → ℕ → ℕ
short_cell s n = first (need_at s s.width) 0 n
