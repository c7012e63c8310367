-- The numbering on a dozen sites, by computation: rows of clash bits, and the answers of an independent program. Assumes nothing.
use mathlib.Core.Path.{◌≡◌, refl}
use mathlib.Core.List.{List, [], ◌∷◌, map}
use Prim.Native.Nat.{ℕ}
use lib.ListN.{length}
use Rattle.laws.specs.Bits.{bit_in}
use Rattle.laws.specs.Sum.{any}
use Rattle.renumbering.specs.Numbering.{last, missing, odd, fit, Numbering, numbered, stuck, give_numbers, numbering}

run : List ℕ → Numbering
run rows = numbering (length rows) (bit_in rows) (length rows)

sites : List (List ℕ)
sites =
    (4 ∷ 4 ∷ 3 ∷ [])
    ∷ (10 ∷ 5 ∷ 10 ∷ 5 ∷ [])
    ∷ (18 ∷ 5 ∷ 10 ∷ 20 ∷ 9 ∷ [])
    ∷ (0 ∷ [])
    ∷ (48 ∷ 16 ∷ 40 ∷ 4 ∷ 3 ∷ 5 ∷ [])
    ∷ (16 ∷ 16 ∷ 16 ∷ 16 ∷ 15 ∷ [])
    ∷ (14 ∷ 5 ∷ 11 ∷ 5 ∷ 32 ∷ 16 ∷ [])
    ∷ (20 ∷ 16 ∷ 25 ∷ 36 ∷ 7 ∷ 8 ∷ [])
    ∷ (12 ∷ 16 ∷ 1 ∷ 49 ∷ 42 ∷ 24 ∷ [])
    ∷ (44 ∷ 24 ∷ 49 ∷ 51 ∷ 14 ∷ 13 ∷ [])
    ∷ (32 ∷ 40 ∷ 48 ∷ 2 ∷ 36 ∷ 23 ∷ [])
    ∷ (46 ∷ 21 ∷ 3 ∷ 49 ∷ 42 ∷ 25 ∷ [])
    ∷ []

desk : map run sites
    ≡ numbered (1 ∷ 3 ∷ 2 ∷ []) (1 ∷ 3 ∷ 2 ∷ [])
    ∷ stuck
    ∷ stuck
    ∷ numbered (1 ∷ []) (1 ∷ [])
    ∷ numbered (1 ∷ 3 ∷ 5 ∷ 6 ∷ 2 ∷ 4 ∷ []) (1 ∷ 5 ∷ 2 ∷ 6 ∷ 3 ∷ 4 ∷ [])
    ∷ numbered (1 ∷ 3 ∷ 4 ∷ 5 ∷ 2 ∷ []) (1 ∷ 5 ∷ 2 ∷ 3 ∷ 4 ∷ [])
    ∷ numbered (1 ∷ 2 ∷ 3 ∷ 4 ∷ 5 ∷ 6 ∷ []) (1 ∷ 2 ∷ 3 ∷ 4 ∷ 5 ∷ 6 ∷ [])
    ∷ numbered (1 ∷ 3 ∷ 4 ∷ 5 ∷ 2 ∷ 6 ∷ []) (1 ∷ 5 ∷ 2 ∷ 3 ∷ 4 ∷ 6 ∷ [])
    ∷ numbered (1 ∷ 4 ∷ 5 ∷ 2 ∷ 3 ∷ 6 ∷ []) (1 ∷ 4 ∷ 5 ∷ 2 ∷ 3 ∷ 6 ∷ [])
    ∷ stuck
    ∷ numbered (1 ∷ 3 ∷ 4 ∷ 5 ∷ 6 ∷ 2 ∷ []) (1 ∷ 6 ∷ 2 ∷ 3 ∷ 4 ∷ 5 ∷ [])
    ∷ stuck
    ∷ []
unfolding run sites any last missing odd fit give_numbers numbering
desk = refl
