-- What it means that something is found for a problem: over valid tables, whoever made them, over all sets of cells and all renumberings. That what is found
-- means this is the theorem `found-means`, proofs/Right.antt.
use Rattle.std.specs.Prelude.{◌≡◌, Bool, true, ℕ, ◌≤◌, ◌<◌}
use Rattle.theory.specs.Net.{Net, Reserved, Valid, room}
use Rattle.theory.specs.Greedy.{reserved, planned, greedy}
use Rattle.theory.specs.Full.{Mutual, weight}
use Rattle.renumbering.specs.Numbering.{index_at}
use Rattle.renumbering.specs.Renumbers.{Renumbers, renumbered, AlwaysClass}
use Rattle.tries.specs.Search.{reserved_by, plan_found, none_exists, tries_of, search_of, ended, limit_met}
use Rattle.heaviest.specs.Sets.{heaviest_set}
use Rattle.search.specs.Search.{too_large}
use Rattle.finding.specs.Found.{over_full, Found, greedily, over_by, renumbered_plan, full_renumbered, by_search, unsearched}

-- no table is valid
abbrev pub NeverValid : Net → Type 0
NeverValid s = (res : Reserved) → Valid s res → ⊥

-- no cells that clash with one another are over
abbrev pub NoneOver : Net → Type 0
NoneOver s = (chosen : ℕ → Bool) → Mutual s chosen → weight s chosen ≤ room s

-- no renumbering puts the problem in the class whatever the loads
abbrev pub NoNumbering : Net → Type 0
NoNumbering s = (new old : ℕ → ℕ) → Renumbers s.cells new old → AlwaysClass (renumbered old s) → ⊥

abbrev pub FoundMeans : Net → ℕ → Found → Type 0
FoundMeans s limit (greedily t) = (greedy s ≡ planned t) × Valid s (reserved s.width t)
FoundMeans s limit (over_by x) = (x ≡ heaviest_set s) × (over_full s x ≡ true) × NeverValid s
FoundMeans s limit (renumbered_plan new t) = Valid s (λ i k. reserved s.width t (index_at new i) k)
FoundMeans s limit full_renumbered = NeverValid s
FoundMeans s limit (by_search (ended (plan_found qs n))) = (search_of s ≡ plan_found qs n) × Valid s (reserved_by qs)
FoundMeans s limit (by_search (ended (none_exists n))) = (search_of s ≡ none_exists n) × NeverValid s
FoundMeans s limit (by_search limit_met) = NoNumbering s × NoneOver s × (limit < tries_of (search_of s))
FoundMeans s limit unsearched = NoNumbering s × NoneOver s × (too_large s ≡ true)
