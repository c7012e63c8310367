-- What `duggfrask why` says of the rule: W11, "why says the rule, and beside a clash by a third cell which cell that is". Cells are indexed from 0, and named
-- from 1 in the text.
use Rattle.std.specs.Prelude.{ℕ, zero, suc, ◌+◌, Bool, not, ◌&&◌, List, [], ◌++◌, ltb, eqb}
use Rattle.laws.specs.Choice.{pick}
use Rattle.laws.specs.Search.{first}
use Rattle.site.specs.Reach.{reaches}
use Rattle.site.specs.declared.Site.{Site}
use Rattle.phrases.specs.Phrases.{phrase}
use Rattle.phrases.specs.declared.Phrase.{Phrase}
use Rattle.phrases.specs.declared.Phrase.TheVariants.{Silent, Row}
use Rattle.say_rule.specs.Lines.{rule_lines, rule_row, third_row}

-- "some third cell is reached by both": the lowest such cell, which is neither of the two; 32 where there is none
unfoldable pub third_of : List ℕ → ℕ → ℕ → ℕ
third_of rows a b = first (λ c. not (eqb c a) && (not (eqb c b) && (reaches rows a c && reaches rows b c))) 0 32

-- two cells, the lower first, that clash by a third cell alone: neither reaches the other
unfoldable pub by_third : List ℕ → ℕ → ℕ → Bool
by_third rows a b = ltb a b && (not (reaches rows a b) && (not (reaches rows b a) && ltb (third_of rows a b) 32))

-- "2 and 5 clash: both reach 4"
abbrev pub third_phrase : List ℕ → ℕ → ℕ → Phrase
third_phrase rows a b = pick (by_third rows a b) (Row third_row (a + 1) (b + 1) (third_of rows a b + 1) 0) Silent

-- the lines of one first cell, of the first n second cells
unfoldable pub seconds_said : List ℕ → ℕ → ℕ → List ℕ
seconds_said rows a zero = []
seconds_said rows a (suc b) = seconds_said rows a b ++ phrase rule_lines (third_phrase rows a b)

-- "Rule 1 stays for running sites": of rule 1 nothing is said
abbrev pub rule_phrase : ℕ → Phrase
rule_phrase rule = pick (eqb rule 2) (Row rule_row 0 0 0 0) Silent

-- "why says the rule"
abbrev pub rule_said : Site → List ℕ
rule_said s = phrase rule_lines (rule_phrase s.rule)

-- ".. and beside a clash by a third cell which cell that is": of the cell at index a with higher ones
abbrev pub thirds_said : Site → ℕ → List ℕ
thirds_said s a = pick (eqb s.rule 2) (seconds_said s.reach a 32) []

-- ---- all of it, as the desk writes it

-- the lines of the first i cells
unfoldable pub firsts_said : Site → ℕ → List ℕ
firsts_said s zero = []
firsts_said s (suc a) = firsts_said s a ++ thirds_said s a

-- the rule, then each clash by a third cell, by first cell, then second
abbrev pub air_said : Site → List ℕ
air_said s = rule_said s ++ firsts_said s 32
