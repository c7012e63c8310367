-- Small problems on both sides of the class: a tunnel with a side drift, the star with its centre last, and the fourth desk example.
-- Every load is 1, and nothing is blocked.
use Rattle.std.specs.Prelude.{◌≡◌, Bool, true, ◌&&◌, ◌||◌, ℕ, ◌+◌, ◌<◌, eqb}
use Rattle.theory.specs.Net.{Net, unblocked}

-- so many cells of load 1 on two positions, and who clashes
abbrev pub one_each : ℕ → (ℕ → ℕ → Bool) → Net
one_each cells clash = record { cells = cells; width = 2; load = λ _. 1; clash = clash; usable = unblocked }

-- A tree of clashes numbered from the mouth: a cell clashes with one lower cell at most, the one before it on the way to the mouth.
abbrev pub FromMouth : Net → (ℕ → ℕ) → Type 0
FromMouth s before = (a i : ℕ) → a < i → i < s.cells → s.clash a i ≡ true → a ≡ before i

-- a and c are the cells x and y, which are numbered from 1
abbrev pub are_cells : ℕ → ℕ → ℕ → ℕ → Bool
are_cells x y a c = eqb (a + 1) x && eqb (c + 1) y

-- a side drift: 1~2, 2~3 are the tunnel, and cell 4 stands in a drift that leaves it at cell 1: 1~4
abbrev pub side_drift : Net
side_drift = one_each 4 (λ a c. are_cells 1 2 a c || (are_cells 2 3 a c || are_cells 1 4 a c))

-- W9: "The three-cell star with its centre last": 1~3, 2~3. It is P3
abbrev pub star_last : Net
star_last = one_each 3 (λ a c. are_cells 1 3 a c || are_cells 2 3 a c)

-- the same star with its centre first: 1~2, 1~3
abbrev pub star_first : Net
star_first = one_each 3 (λ a c. are_cells 1 2 a c || are_cells 1 3 a c)

-- P4: 1~3, 2~4, 3~4
abbrev pub fourth_desk : Net
fourth_desk = one_each 4 (λ a c. are_cells 1 3 a c || (are_cells 2 4 a c || are_cells 3 4 a c))
