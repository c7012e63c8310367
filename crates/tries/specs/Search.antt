-- W13: the search where greedy gives up, with the tries that it makes. Cells and positions are counted from 0.
-- "try fragments in cell order, each cell's positions rising within the cell, lowest first, going back when stuck."
use Rattle.std.specs.Prelude.{Bool, false, ◌&&◌, ◌||◌, List, [], ◌∷◌, ◌++◌, ℕ, zero, suc, ◌+◌, ltb, eqb, replicate}
use Rattle.laws.specs.Choice.{pick}
use Rattle.theory.specs.Net.{Net, Reserved}

-- a fragment that is placed: its cell, and its position
pub record Spot : Type 0 where
  pub cell : ℕ
  pub position : ℕ

abbrev pub spot_at : ℕ → ℕ → Spot
spot_at c p = record { cell = c; position = p }

-- the table that reserves what is placed, and nothing else
unfoldable pub reserved_by : List Spot → Reserved
reserved_by [] i k = false
reserved_by (q ∷ qs) i k = (eqb i q.cell && eqb k q.position) || reserved_by qs i k

-- whether position p is taken by a lower cell that clashes with cell c
unfoldable pub taken_by : (ℕ → ℕ → Bool) → List Spot → ℕ → ℕ → Bool
taken_by clash [] c p = false
taken_by clash (q ∷ qs) c p = (ltb q.cell c && clash q.cell c && eqb q.position p) || taken_by clash qs c p

-- how a search ends, and the tries made: a plan (what is placed, the last first), or none exists
pub data End : Type 0 where
  plan_found : List Spot → ℕ → End
  none_exists : ℕ → End

abbrev pub tries_of : End → ℕ
tries_of (plan_found qs n) = n
tries_of (none_exists n) = n

-- the same end, with m tries made before
unfoldable pub after_tries : ℕ → End → End
after_tries m (plan_found qs n) = plan_found qs (m + n)
after_tries m (none_exists n) = none_exists (m + n)

-- "going back when stuck": the first search, and where it found nothing the second
unfoldable pub or_next : End → End → End
or_next (plan_found qs n) r = plan_found qs n
or_next (none_exists n) r = after_tries n r

-- A fragment of cell c looks at the positions ps, where qs is placed already. "One try is one position looked at for one fragment", "those taken by a
-- clashing cell included, and nothing is skipped ahead of time." `next` goes on with the later fragments, given the positions that are left and what is placed.
unfoldable pub look_at : (ℕ → ℕ → Bool) → (List ℕ → List Spot → End) → ℕ → List Spot → List ℕ → End
look_at clash next c qs [] = none_exists 0
look_at clash next c qs (p ∷ ps) =
    after_tries 1 (or_next (pick (taken_by clash qs c p) (none_exists 0) (next ps (spot_at c p ∷ qs))) (look_at clash next c qs ps))

-- the positions for the fragment after one of cell c: "only open positions past that cell's previous fragment are looked at"
unfoldable pub onward : List ℕ → ℕ → List ℕ → List ℕ → List ℕ
onward all c [] ps = ps
onward all c (d ∷ cs) ps = pick (eqb d c) ps all

-- The fragments that are left, each by its cell; what is placed; and the positions for the first of them.
unfoldable pub seek : (ℕ → ℕ → Bool) → List ℕ → List ℕ → List Spot → List ℕ → End
seek clash all [] qs ps = plan_found qs 0
seek clash all (c ∷ cs) qs ps = look_at clash (λ rs ss. seek clash all cs ss (onward all c cs rs)) c qs ps

-- ---- of a problem

-- the usable ones of the n positions from p on, rising
unfoldable pub opens_from : (ℕ → Bool) → ℕ → ℕ → List ℕ
opens_from usable p zero = []
opens_from usable p (suc n) = pick (usable p) (p ∷ []) [] ++ opens_from usable (suc p) n

-- "fragments in cell order": those of the n cells from i on
unfoldable pub fragments_from : (ℕ → ℕ) → ℕ → ℕ → List ℕ
fragments_from load i zero = []
fragments_from load i (suc n) = replicate (load i) i ++ fragments_from load (suc i) n

abbrev pub open_list : Net → List ℕ
open_list s = opens_from s.usable 0 s.width

abbrev pub fragments : Net → List ℕ
fragments s = fragments_from s.load 0 s.cells

-- the whole search
abbrev pub search_of : Net → End
search_of s = seek s.clash (open_list s) (fragments s) [] (open_list s)

-- ---- the limit

-- "The caller gives a limit on tries; the answer is a plan, "none exists" or "limit met", with the tries made."
pub data Limited : Type 0 where
  ended : End → Limited
  limit_met : Limited

-- ""Limit met" is given exactly when the search needs more tries than the limit."
abbrev pub limited : ℕ → End → Limited
limited limit r = pick (ltb limit (tries_of r)) limit_met (ended r)

abbrev pub searched : Net → ℕ → Limited
searched s limit = limited limit (search_of s)
