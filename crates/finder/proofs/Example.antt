-- `find` on small sites, computed: each way once, with what it leaves in the table. And `over_full` on sets of cells of a small site. Assumes nothing.
use mathlib.Core.Path.{◌≡◌, refl}
use mathlib.Core.List.{List, [], ◌∷◌, ◌++◌}
use Prim.Native.Nat.{ℕ}
use lib.ListN.{replicate}
use Rattle.std.specs.Prelude.{Result, Ok, Err}
use Rattle.laws.specs.Bits.{word_of}
use Rattle.laws.specs.Part.{part, list_of}
use Rattle.laws.specs.Search.{first_of}
use Rattle.laws.specs.Sum.{sum, any}
use Rattle.theory.specs.Greedy.{forbid, marked, fill, run}
use Rattle.admitting.specs.Best.{best_of}
use Rattle.tries.specs.Search.{taken_by, after_tries, or_next, look_at, onward, seek, opens_from, fragments_from}
use Rattle.site.specs.Record.{site_of, size, up_to, size_ok, rule_ok, row_bad, extra_load, bad_row, extra_blocked, fault_of}
use Rattle.site.specs.Reach.{reaches, clash_in}
use Rattle.site.specs.declared.Site.{Site}
use Rattle.site.specs.declared.Fault.{Fault}
use Rattle.renumbering.specs.Numbering.{last, missing, odd, fit, give_numbers, numbering}
use Rattle.wordforms.specs.Words.{bytes_of}
use Rattle.heaviest.specs.Sets.{mutual_in, heaviest_in}
use Rattle.search.specs.Search.{lay_out}
use Rattle.finding.specs.Found.{over_full, found_else, found_of}
use Rattle.finder.specs.Find.{find_answer, find_table, over_full_answer}
use Rattle.finder.specs.declared.Way.{Way}
use Rattle.finder.specs.declared.Way.TheVariants.{Greedy, Renumbered, Searched}
use Rattle.finder.specs.declared.FindError.{FindError}
use Rattle.finder.specs.declared.FindError.TheVariants.{Full, FullSearched, NotKnown}
use Rattle.finder.specs.declared.OverFull.{OverFull}
use Rattle.finder.specs.declared.OverFull.TheVariants.{Over, Within}

-- so many cells with load 1 and so many slots on one channel, by the reach rows
site : ℕ → ℕ → List ℕ → List ℕ → Site
site cells slots rest reach = site_of cells slots 1 (replicate cells 1 ++ rest) reach [] 1

-- a chain of two cells
two : Site
two = site 2 2 (replicate 30 0) (2 ∷ replicate 31 0)

-- P4: 1~3, 2~4, 3~4, and two positions
p4 : Site
p4 = site 4 2 (replicate 28 0) (4 ∷ 8 ∷ 8 ∷ replicate 29 0)

-- cell 3 clashes with cells 1 and 2, and there is one position for all
full : Site
full = site 3 1 (replicate 29 0) (4 ∷ 4 ∷ replicate 30 0)

-- a ring of six cells, numbered so that greedy gives up, and a ring of five, which two positions do not do for
six : Site
six = site 6 2 (replicate 26 0) (36 ∷ 24 ∷ 8 ∷ 0 ∷ 32 ∷ replicate 27 0)

five : Site
five = site 5 2 (replicate 27 0) (18 ∷ 4 ∷ 8 ∷ 16 ∷ replicate 28 0)

-- a table with old bytes in it, and one past the site's
lent : Site → List ℕ
lent s = replicate (size s) 7 ++ 9 ∷ []

abbrev found : List (Result Way FindError)
found =
    find_answer two 0 (lent two) ∷ find_answer p4 0 (lent p4) ∷ find_answer full 0 (lent full) ∷ find_answer six 13 (lent six) ∷ find_answer six 12 (lent six)
    ∷ find_answer five 18 (lent five) ∷ find_answer five 17 (lent five) ∷ []

find-answers : found ≡ Ok Greedy ∷ Ok Renumbered ∷ Err (Full 5) ∷ Ok (Searched 13) ∷ Err (NotKnown 12) ∷ Err (FullSearched 18) ∷ Err (NotKnown 17) ∷ []
unfolding two p4 full six five site lent first_of sum any part list_of forbid marked fill run best_of taken_by after_tries or_next look_at onward seek
    opens_from
    fragments_from word_of up_to size_ok rule_ok row_bad extra_load bad_row extra_blocked fault_of reaches clash_in last missing odd fit give_numbers numbering
    mutual_in
    heaviest_in found_else found_of find_answer
find-answers = refl

find-tables :
    find_table p4 0 (lent p4) ∷ find_table full 0 (lent full) ∷ find_table six 13 (lent six) ∷ find_table five 17 (lent five) ∷ []
    ≡ (1 ∷ 0 ∷ 0 ∷ 1 ∷ 0 ∷ 1 ∷ 1 ∷ 0 ∷ 9 ∷ [])
    ∷ (0 ∷ 0 ∷ 0 ∷ 9 ∷ [])
    ∷ (1 ∷ 0 ∷ 0 ∷ 1 ∷ 0 ∷ 1 ∷ 1 ∷ 0 ∷ 1 ∷ 0 ∷ 0 ∷ 1 ∷ 9 ∷ [])
    ∷ (replicate 10 0 ++ 9 ∷ [])
    ∷ []
unfolding p4 full six five site lent first_of sum any part list_of forbid marked fill run best_of taken_by after_tries or_next look_at onward seek opens_from
    fragments_from word_of up_to size_ok rule_ok row_bad extra_load bad_row extra_blocked fault_of reaches clash_in last missing odd fit give_numbers numbering
    mutual_in
    heaviest_in lay_out bytes_of found_else found_of find_table
find-tables = refl

-- cells 1 and 3, and 2 and 3, clash; 1 and 2 do not; cell 3 alone has room; cell 4 is not the site's, and adds nothing to the load of 1 and 3
abbrev sets : List (Result OverFull Fault)
sets = over_full_answer full 5 ∷ over_full_answer full 6 ∷ over_full_answer full 7 ∷ over_full_answer full 4 ∷ over_full_answer full 13
    ∷ over_full_answer full 0 ∷ []

over-answers : sets ≡ Ok (Over 2) ∷ Ok (Over 2) ∷ Ok (Within 3) ∷ Ok (Within 1) ∷ Ok (Within 2) ∷ Ok (Within 0) ∷ []
unfolding full site first_of sum any word_of up_to size_ok rule_ok row_bad extra_load bad_row extra_blocked fault_of reaches clash_in mutual_in over_full
    over_full_answer
over-answers = refl
