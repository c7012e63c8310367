-- The search on the desk's sites, computed: what each ends with and its tries, and that a limit of one try less is met. Cells are counted from 0.
-- Assumes nothing.
use mathlib.Core.Path.{◌≡◌, refl}
use mathlib.Core.Bool.{Bool, false, ◌&&◌, ◌||◌, not}
use mathlib.Core.List.{List, [], ◌∷◌}
use Prim.Native.Nat.{ℕ, suc}
use lib.Dec.{eqb}
use lib.ListN.{length, get_or}
use Rattle.theory.specs.Net.{Net, unblocked}
use Rattle.tries.specs.Search.{Spot, spot_at, taken_by, plan_found, none_exists, after_tries, or_next, look_at, onward, seek, opens_from, fragments_from}
use Rattle.tries.specs.Search.{Limited, ended, limit_met, searched}

unfoldable listed : List Spot → ℕ → ℕ → Bool
listed [] a c = false
listed (p ∷ ps) a c = eqb p.cell (suc a) && eqb p.position (suc c) || listed ps a c

abbrev net : ℕ → List ℕ → List Spot → (ℕ → Bool) → Net
net n loads pairs usable = record { cells = length loads; width = n; load = λ i. get_or loads i 0; clash = listed pairs; usable = usable }

infix 80 ◌~◌
abbrev ◌~◌ : ℕ → ℕ → Spot
a ~ b = spot_at a b

abbrev P1 : Net
P1 = net 6 (5 ∷ 1 ∷ 4 ∷ []) (1 ~ 2 ∷ 2 ~ 3 ∷ []) unblocked

abbrev P2 : Net
P2 = net 6 (5 ∷ 2 ∷ 4 ∷ []) (1 ~ 2 ∷ 2 ~ 3 ∷ []) unblocked

abbrev P4 : Net
P4 = net 2 (1 ∷ 1 ∷ 1 ∷ 1 ∷ []) (1 ~ 3 ∷ 2 ~ 4 ∷ 3 ~ 4 ∷ []) unblocked

abbrev P7 : Net
P7 = net 2 (1 ∷ 0 ∷ 1 ∷ 1 ∷ 1 ∷ []) (1 ~ 4 ∷ 2 ~ 3 ∷ 3 ~ 5 ∷ 4 ~ 5 ∷ []) unblocked

-- position 1 is blocked, and costs no try
abbrev shut : Net
shut = net 4 (2 ∷ 1 ∷ []) (1 ~ 2 ∷ []) (λ k. not (eqb k 1))

-- three cells that clash with one another, and two positions
abbrev three : Net
three = net 2 (1 ∷ 1 ∷ 1 ∷ []) (1 ~ 2 ∷ 2 ~ 3 ∷ 1 ~ 3 ∷ []) unblocked

-- no fragments
abbrev none : Net
none = net 2 (0 ∷ 0 ∷ []) (1 ~ 2 ∷ []) unblocked

abbrev asked : List Limited
asked =
    searched P1 15 ∷ searched P2 113 ∷ searched P4 10 ∷ searched P4 9 ∷ searched P7 10 ∷ searched shut 5 ∷ searched three 10 ∷ searched three 9
    ∷ searched three 0 ∷ searched none 0 ∷ []

abbrev says : List Limited
says =
    ended (plan_found (2 ~ 3 ∷ 2 ~ 2 ∷ 2 ~ 1 ∷ 2 ~ 0 ∷ 1 ~ 5 ∷ 0 ~ 4 ∷ 0 ~ 3 ∷ 0 ~ 2 ∷ 0 ~ 1 ∷ 0 ~ 0 ∷ []) 15)
    ∷ ended (none_exists 113)
    ∷ ended (plan_found (3 ~ 0 ∷ 2 ~ 1 ∷ 1 ~ 1 ∷ 0 ~ 0 ∷ []) 10)
    ∷ limit_met
    ∷ ended (plan_found (4 ~ 0 ∷ 3 ~ 1 ∷ 2 ~ 1 ∷ 0 ~ 0 ∷ []) 10)
    ∷ ended (plan_found (1 ~ 3 ∷ 0 ~ 2 ∷ 0 ~ 0 ∷ []) 5)
    ∷ ended (none_exists 10)
    ∷ limit_met
    ∷ limit_met
    ∷ ended (plan_found [] 0)
    ∷ []

search-examples : asked ≡ says
unfolding taken_by after_tries or_next look_at onward seek opens_from fragments_from listed
search-examples = refl
