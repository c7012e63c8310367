-- Desk examples: tables of document 01's P1, P2, P4 and P12, and one of a pair that clashes, mended. Both sides are computed.
-- Assumes nothing.
use mathlib.Core.Path.{◌≡◌, refl}
use mathlib.Core.Bool.{Bool, true, false, ◌&&◌, ◌||◌}
use mathlib.Core.List.{List, [], ◌∷◌, map}
use Prim.Native.Nat.{ℕ, suc}
use lib.Dec.{eqb}
use lib.ListN.{length, get_or}
use Rattle.laws.specs.Sum.{sum, any}
use Rattle.theory.specs.Net.{Net}
use Rattle.theory.specs.Greedy.{Outcome, planned, no_room, reserved, forbid, marked, fill, unmet, run}
use Rattle.laws.specs.Part.{part}
use Rattle.mending.specs.Mend.{stand, mend, overlay}
use Rattle.mending.specs.Changes.{cell_changes, changes}

-- clashing pairs, by cell number, the lower one first
pub record Pair : Type 0 where
  pub low : ℕ
  pub high : ℕ

infix 80 ◌~◌
abbrev pub ◌~◌ : ℕ → ℕ → Pair
a ~ b = record { low = a; high = b }

unfoldable pub listed : List Pair → ℕ → ℕ → Bool
listed [] a c = false
listed (p ∷ ps) a c = eqb p.low (suc a) && eqb p.high (suc c) || listed ps a c

abbrev pub net : ℕ → List ℕ → List Pair → Net
net n loads pairs = record { cells = length loads; width = n; load = λ i. get_or loads i 0; clash = listed pairs; usable = λ _. true }

-- what a call answers: the mended table and the changes, or the cell, from 0, and what it is short
pub data Mending : Type 0 where
  done : List ℕ → List ℕ → Mending
  short : ℕ → ℕ → Mending

abbrev pub told : Net → List ℕ → Outcome → Mending
told s u (planned t) = done (overlay t u) (changes (reserved s.width t) (reserved s.width u) s.width s.cells)
told s u (no_room c m) = short c m

abbrev pub mending : Net → List ℕ → Mending
mending s u = told s u (mend s u)

abbrev pub P1 : Net
P1 = net 6 (5 ∷ 1 ∷ 4 ∷ []) (1 ~ 2 ∷ 2 ~ 3 ∷ [])

abbrev pub P2 : Net
P2 = net 6 (5 ∷ 2 ∷ 4 ∷ []) (1 ~ 2 ∷ 2 ~ 3 ∷ [])

abbrev pub P4 : Net
P4 = net 2 (1 ∷ 1 ∷ 1 ∷ 1 ∷ []) (1 ~ 3 ∷ 2 ~ 4 ∷ 3 ~ 4 ∷ [])

abbrev pub P12 : Net
P12 = net 1 (2 ∷ []) []

-- two cells that clash, a fragment each
abbrev pub pair : Net
pair = net 2 (1 ∷ 1 ∷ []) (1 ~ 2 ∷ [])

pub record Line : Type 0 where
  pub asked : Mending
  pub says : Mending

infix 70 ◌⇒◌
abbrev pub ◌⇒◌ : Mending → Mending → Line
a ⇒ b = record { asked = a; says = b }

abbrev pub lines : List Line
lines =
    -- P8's table: cell 3 holds one too many
    mending P1 (1 ∷ 1 ∷ 1 ∷ 1 ∷ 1 ∷ 0 ∷ 0 ∷ 0 ∷ 0 ∷ 0 ∷ 0 ∷ 1 ∷ 1 ∷ 1 ∷ 1 ∷ 1 ∷ 1 ∷ 0 ∷ [])
    ⇒ done (1 ∷ 1 ∷ 1 ∷ 1 ∷ 1 ∷ 0 ∷ 0 ∷ 0 ∷ 0 ∷ 0 ∷ 0 ∷ 1 ∷ 1 ∷ 1 ∷ 1 ∷ 1 ∷ 0 ∷ 0 ∷ []) (3 ∷ 4 ∷ 1 ∷ 0 ∷ [])
    -- P9's: cell 3 clashes with cell 2 at position 5; other bytes and those past the table stay
    ∷ mending P1 (1 ∷ 1 ∷ 1 ∷ 1 ∷ 1 ∷ 0 ∷ 7 ∷ 2 ∷ 0 ∷ 0 ∷ 0 ∷ 1 ∷ 9 ∷ 0 ∷ 1 ∷ 1 ∷ 1 ∷ 1 ∷ 1 ∷ 8 ∷ [])
    ⇒ done (1 ∷ 1 ∷ 1 ∷ 1 ∷ 1 ∷ 0 ∷ 7 ∷ 2 ∷ 0 ∷ 0 ∷ 0 ∷ 1 ∷ 1 ∷ 0 ∷ 1 ∷ 1 ∷ 1 ∷ 0 ∷ 1 ∷ 8 ∷ []) (3 ∷ 0 ∷ 0 ∷ 1 ∷ 3 ∷ 5 ∷ 1 ∷ 0 ∷ [])
    ∷ mending P2 (1 ∷ 1 ∷ 1 ∷ 1 ∷ 1 ∷ 0 ∷ 0 ∷ 0 ∷ 0 ∷ 0 ∷ 0 ∷ 1 ∷ 1 ∷ 1 ∷ 1 ∷ 1 ∷ 1 ∷ 0 ∷ []) ⇒ short 1 1
    -- P5's table is valid; the idle table finds no room, as the planner
    ∷ mending P4 (1 ∷ 0 ∷ 0 ∷ 1 ∷ 0 ∷ 1 ∷ 1 ∷ 0 ∷ []) ⇒ done (1 ∷ 0 ∷ 0 ∷ 1 ∷ 0 ∷ 1 ∷ 1 ∷ 0 ∷ []) []
    ∷ mending P4 (0 ∷ 0 ∷ 0 ∷ 0 ∷ 0 ∷ 0 ∷ 0 ∷ 0 ∷ []) ⇒ short 3 1
    ∷ mending P12 (1 ∷ []) ⇒ short 0 1
    -- a later cell on the lowest free position is not in the way: cell 1 takes it, and cell 2 gives it up
    ∷ mending pair (0 ∷ 0 ∷ 1 ∷ 0 ∷ []) ⇒ done (1 ∷ 0 ∷ 0 ∷ 1 ∷ []) (1 ∷ 0 ∷ 0 ∷ 1 ∷ 2 ∷ 0 ∷ 1 ∷ 0 ∷ 2 ∷ 1 ∷ 0 ∷ 1 ∷ [])
    ∷ []

pub desk : map (λ l. l.asked) lines ≡ map (λ l. l.says) lines
unfolding listed sum any forbid marked fill unmet run stand overlay cell_changes changes part
desk = refl
