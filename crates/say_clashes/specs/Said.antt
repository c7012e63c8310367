-- What `duggfrask clashes` says: "every clash with who reaches whom (and, under rule 2, by which third cell)", by first cell, then second. Cells are indexed
-- from 0, and named from 1 in the text.
use Rattle.std.specs.Prelude.{ℕ, zero, suc, ◌+◌, Bool, true, false, List, [], ◌++◌, ltb, eqb}
use Rattle.laws.specs.Choice.{pick}
use Rattle.site.specs.Reach.{reaches}
use Rattle.site.specs.declared.Site.{Site}
use Rattle.clashcount.specs.Count.{clash_count}
use Rattle.phrases.specs.Phrases.{phrase}
use Rattle.phrases.specs.declared.Phrase.{Phrase}
use Rattle.phrases.specs.declared.Phrase.TheVariants.{Silent, Row}
use Rattle.say_rule.specs.Said.{third_of}
use Rattle.say_clashes.specs.Lines.{clash_lines, forth_row, back_row, each_row, third_alone_row, forth_third_row, back_third_row, each_third_row}
use Rattle.say_clashes.specs.Lines.{one_clash_row, clashes_row}

-- "under rule 2, by which third cell": the lowest that both reach; 32 where there is none, or under another rule
unfoldable pub third_under : ℕ → List ℕ → ℕ → ℕ → ℕ
third_under rule rows a b = pick (eqb rule 2) (third_of rows a b) 32

-- "who reaches whom", where no third cell is named, of the cells a and b by index; nothing where neither reaches the other
abbrev pub way_phrase : (forth back : Bool) (a b : ℕ) → Phrase
way_phrase forth back a b =
    pick forth (Row (pick back each_row forth_row) (a + 1) (b + 1) 0 0) (pick back (Row back_row (a + 1) (b + 1) 0 0) Silent)

-- and where both reach the third cell c
abbrev pub third_way : (forth back : Bool) → ℕ
third_way forth back = pick forth (pick back each_third_row forth_third_row) (pick back back_third_row third_alone_row)

abbrev pub pair_phrase : (forth back : Bool) (a b c : ℕ) → Phrase
pair_phrase forth back a b c = pick (ltb c 32) (Row (third_way forth back) (a + 1) (b + 1) (c + 1) 0) (way_phrase forth back a b)

abbrev pub spoke : Phrase → Bool
spoke Silent = false
spoke (Row row a b c d) = true

-- two cells, the lower first
unfoldable pub clash_phrase : ℕ → List ℕ → ℕ → ℕ → Phrase
clash_phrase rule rows a b = pick (ltb a b) (pair_phrase (reaches rows a b) (reaches rows b a) a b (third_under rule rows a b)) Silent

-- the lines of one first cell, of the first n second cells
unfoldable pub pairs_said : ℕ → List ℕ → ℕ → ℕ → List ℕ
pairs_said rule rows a zero = []
pairs_said rule rows a (suc b) = pairs_said rule rows a b ++ phrase clash_lines (clash_phrase rule rows a b)

-- the clashes of the cell at index a with higher ones
abbrev pub clashes_said : Site → ℕ → List ℕ
clashes_said s a = pairs_said s.rule s.reach a 32

-- "The last line counts", and names the rule
abbrev pub count_phrase : (number rule : ℕ) → Phrase
count_phrase number rule = pick (eqb number 1) (Row one_clash_row rule 0 0 0) (Row clashes_row number rule 0 0)

abbrev pub clash_count_said : Site → List ℕ
clash_count_said s = phrase clash_lines (count_phrase (clash_count s) s.rule)

-- ---- all of it, as the desk writes it

-- the lines of the first i cells
unfoldable pub all_clashes_said : Site → ℕ → List ℕ
all_clashes_said s zero = []
all_clashes_said s (suc a) = all_clashes_said s a ++ clashes_said s a

-- whether a line is said of two cells, by index
abbrev pub clash_line_of : Site → ℕ → ℕ → Bool
clash_line_of s a b = spoke (clash_phrase s.rule s.reach a b)
