-- What the checker's searches look for: a blocked position that a cell reserves, a position with a clash, and the marks that say so.
use Rattle.std.specs.Prelude.{◌≡◌, Bool, false, not, List, [], ℕ, ◌+◌, ◌<◌, ltb, eqb, get_or}
use Rattle.std.proofs.lemmas.List.Edits.{sets}
use Rattle.laws.specs.Bits.{bit_in}
use Rattle.laws.specs.Choice.{pick}
use Rattle.laws.specs.Part.{list_of}
use Rattle.laws.specs.Sum.{any}
use Rattle.theory.specs.Net.{Net, Reserved, unblocked}
use Rattle.theory.specs.Greedy.{sends, reserved}
use Rattle.theory.specs.Verdict.{first_at}
use Rattle.site.specs.Reach.{is_open, net_in}

-- the problem as far as blocked positions go: no load and no clash is looked at
abbrev pub bar_net : ℕ → ℕ → List ℕ → Net
bar_net cells n blocked = net_in cells n [] (λ a c. false) (is_open blocked)

-- the problem as far as clashes go: no load is looked at
abbrev pub clash_net : ℕ → ℕ → List ℕ → Net
clash_net cells n clash = net_in cells n [] (bit_in clash) unblocked

-- some cell clashes at position k with a cell above it: the test of `lowest_clash`
abbrev pub clashing : Net → Reserved → ℕ → Bool
clashing s res k = ltb (first_at s res k) s.cells

-- the positions with a clash, by the numbers that the searches have: a table with a row of n bytes for each cell, and the clash rows
abbrev pub clashing_in : (cells n : ℕ) → (clash table : List ℕ) → ℕ → Bool
clashing_in cells n clash table = clashing (clash_net cells n clash) (reserved n table)

-- the positions that some cell reserves
abbrev pub held_in : (cells n : ℕ) → (table : List ℕ) → ℕ → Bool
held_in cells n table k = any (λ i. reserved n table i k) cells

-- mark k is set: it is not 0
abbrev pub mark_set : List ℕ → ℕ → Bool
mark_set marks k = not (eqb (get_or marks k 0) 0)

-- the first m marks say which positions pass a test, from position `from` on: mark k is set exactly where position from + k passes
abbrev pub Marks : (test : ℕ → Bool) → (from m : ℕ) → List ℕ → Type 0
Marks test from m marks = (k : ℕ) → k < m → mark_set marks k ≡ test (from + k)

-- mark k, set where byte k of the table's bytes from `from` on sends
abbrev pub held_at : (marks table : List ℕ) → (from k : ℕ) → ℕ
held_at marks table from k = pick (sends (get_or table (from + k) 0)) 1 (get_or marks k 0)

-- the marks with the first m so set
abbrev pub held_row : (marks table : List ℕ) → (from m : ℕ) → List ℕ
held_row marks table from m = sets marks 0 (list_of (held_at marks table from) m)
