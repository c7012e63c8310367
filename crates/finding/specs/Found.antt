-- What is found for a problem by the ways that are proved, each asked where those before it do not say: the greedy planner, the heaviest set of cells that
-- clash with one another, the cells in new numbers, the search. A set of cells is a number: the cell at index i is in it when its bit of weight 2 ^ i is 1.
use Rattle.std.specs.Prelude.{Bool, true, false, ◌&&◌, List, ℕ, ◌^◌, ltb}
use Rattle.laws.specs.Bits.{bit_at}
use Rattle.laws.specs.Choice.{pick}
use Rattle.theory.specs.Net.{Net, room}
use Rattle.theory.specs.Greedy.{Outcome, planned, no_room, greedy}
use Rattle.theory.specs.Full.{weight}
use Rattle.renumbering.specs.Numbering.{Numbering, numbered, stuck, numbering, index_at}
use Rattle.renumbering.specs.Renumbers.{renumbered}
use Rattle.tries.specs.Search.{Limited, ended, limit_met, searched}
use Rattle.heaviest.specs.Sets.{mutual_in, heaviest_set}
use Rattle.search.specs.Search.{too_large}

-- whether the cells of x are the problem's, clash with one another, and have loads that come to more than the usable positions
unfoldable pub over_full : Net → ℕ → Bool
over_full s x = ltb x (2 ^ s.cells) && (mutual_in s.clash s.cells x && ltb (room s) (weight s (bit_at x)))

-- what is found: the greedy plan; none, for this set of cells is over; the plan of the problem in new numbers, with the new number of each old cell; none,
-- for the problem in new numbers has no room; what the search says; or nothing, for the search does not take so large a problem
pub data Found : Type 0 where
  greedily : List ℕ → Found
  over_by : ℕ → Found
  renumbered_plan : List ℕ → List ℕ → Found
  full_renumbered : Found
  by_search : Limited → Found
  unsearched : Found

-- by the greedy run in new numbers
abbrev pub found_anew : List ℕ → Outcome → Found
found_anew new (planned t) = renumbered_plan new t
found_anew new (no_room c m) = full_renumbered

-- by the search, where there is no numbering
abbrev pub found_sought : Net → ℕ → Found
found_sought s limit = pick (too_large s) unsearched (by_search (searched s limit))

-- by the numbering, where no set is over: arrays of numbers have 32 places
abbrev pub found_numbered : Net → ℕ → Numbering → Found
found_numbered s limit (numbered new old) = found_anew new (greedy (renumbered (index_at old) s))
found_numbered s limit stuck = found_sought s limit

-- whether the heaviest set is over
abbrev pub heaviest_over : Net → Bool
heaviest_over s = ltb (room s) (weight s (bit_at (heaviest_set s)))

-- where the greedy planner finds no room
unfoldable pub found_else : Net → ℕ → Found
found_else s limit = pick (heaviest_over s) (over_by (heaviest_set s)) (found_numbered s limit (numbering 32 s.clash s.cells))

abbrev pub found_by : Net → ℕ → Outcome → Found
found_by s limit (planned t) = greedily t
found_by s limit (no_room c m) = found_else s limit

unfoldable pub found_of : Net → ℕ → Found
found_of s limit = found_by s limit (greedy s)

-- whether a plan is found, or that there is none
abbrev pub known : Found → Bool
known (greedily t) = true
known (over_by x) = true
known (renumbered_plan new t) = true
known full_renumbered = true
known (by_search (ended r)) = true
known (by_search limit_met) = false
known unsearched = false
