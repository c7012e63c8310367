-- The last words and the lines of `find`, computed letter by letter: each answer once, one try and more, one cell and more, the highest cell. Assumes nothing.
use Prim.Native.Nat.{ℕ}
use mathlib.Core.List.{List, [], ◌∷◌}
use mathlib.Core.Path.{◌≡◌, refl}
use Rattle.std.specs.Prelude.{Ok, Err}
use Rattle.laws.specs.Search.{first_of}
use Rattle.laws.specs.Sum.{sum}
use Rattle.site.specs.Record.{site_of, up_to, size_ok, rule_ok, row_bad, extra_load, bad_row, extra_blocked, fault_of}
use Rattle.site.specs.Reach.{reaches, clash_in}
use Rattle.site.specs.declared.Site.{Site}
use Rattle.text.specs.Decimal.{digits_of, decimal}
use Rattle.speech.specs.Speech.{bytes, spoken}
use Rattle.finder.specs.declared.Way.TheVariants.{Greedy, Renumbered, Searched}
use Rattle.finder.specs.declared.FindError.TheVariants.{Full, FullSearched, NotKnown, TableShort}
use Rattle.finds.specs.Lines.{last_lines, find_lines}
use Rattle.finds.specs.Last.{several_in, later_phrase, later_said, last_word}
use Rattle.finds.specs.Find.{needs_phrase, unknown_phrase, find_said, status_of}

words-said :
    last_word (Ok Greedy) ∷ last_word (Ok Renumbered) ∷ last_word (Ok (Searched 10)) ∷ last_word (Ok (Searched 1))
    ∷ last_word (Err (FullSearched 18)) ∷ last_word (Err (FullSearched 1)) ∷ last_word (Err (NotKnown 0)) ∷ last_word (Err (NotKnown 1)) ∷ []
    ≡ bytes "planned" ∷ bytes "planned with the cells renumbered" ∷ bytes "planned by search (10 tries)" ∷ bytes "planned by search (1 try)"
    ∷ bytes "full (searched, 18 tries)" ∷ bytes "full (searched, 1 try)" ∷ bytes "not known (0 tries)" ∷ bytes "not known (1 try)" ∷ []
unfolding last_lines spoken decimal digits_of
words-said = refl

-- cells 1 and 2; cell 3; cells 1, 5 and 32
sets-said :
    last_word (Err (Full 3)) ∷ last_word (Err (Full 4)) ∷ last_word (Err (Full 2147483665)) ∷ []
    ≡ bytes "full (cells 1, 2)" ∷ bytes "full (cell 3)" ∷ bytes "full (cells 1, 5, 32)" ∷ []
unfolding last_lines spoken decimal digits_of first_of several_in later_phrase later_said
sets-said = refl

-- the lines of `find`: P1's size; a set of one cell and of two, with nothing blocked and with position 0 blocked; the search; the statuses
abbrev site : List ℕ → List ℕ → Site
site loads blocked = site_of 2 2 1 loads (2 ∷ []) blocked 1

lines-said :
    find_said (site (1 ∷ []) []) (Ok Greedy) ∷ find_said (site (1 ∷ []) []) (Ok (Searched 1)) ∷ find_said (site (2 ∷ 1 ∷ []) []) (Err (Full 3))
    ∷ find_said (site (2 ∷ 1 ∷ []) (1 ∷ [])) (Err (Full 3)) ∷ find_said (site (0 ∷ 3 ∷ []) []) (Err (Full 2))
    ∷ find_said (site (0 ∷ 2 ∷ []) (1 ∷ [])) (Err (Full 2))
    ∷ find_said (site [] []) (Err (FullSearched 18)) ∷ find_said (site [] []) (Err (NotKnown 10)) ∷ find_said (site (25 ∷ []) []) (Err (NotKnown 0)) ∷ []
    ≡ bytes "planned: 2 cells, 2 slots, 1 channel\n" ∷ bytes "planned by search (1 try): 2 cells, 2 slots, 1 channel\n"
    ∷ bytes "full (cells 1, 2): they clash with one another and need 3 channel-slots, and the site has 2\n"
    ∷ bytes "full (cells 1, 2): they clash with one another and need 3 channel-slots, and the site has 1 open\n"
    ∷ bytes "full (cell 2): it needs 3 channel-slots, and the site has 2\n" ∷ bytes "full (cell 2): it needs 2 channel-slots, and the site has 1 open\n"
    ∷ bytes "full (searched, 18 tries): no plan exists\n" ∷ bytes "not known (10 tries): the search stopped there\n"
    ∷ bytes "not known (0 tries): over 64 open positions or 24 fragments, which is too many to search\n" ∷ []
unfolding last_lines find_lines spoken decimal digits_of first_of sum several_in later_phrase later_said needs_phrase unknown_phrase find_said up_to size_ok
    rule_ok row_bad
    extra_load bad_row extra_blocked fault_of reaches clash_in
lines-said = refl

statuses : status_of (Ok Greedy) ∷ status_of (Err (Full 3)) ∷ status_of (Err (NotKnown 0)) ∷ status_of (Err TableShort) ∷ [] ≡ 0 ∷ 1 ∷ 3 ∷ 1 ∷ []
statuses = refl
