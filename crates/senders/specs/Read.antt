-- How the line of a cell is read. After its colon come runs, with commas between. Of a run the first number or range is its slots, and those after it are its
-- channels; a run that names no channels has all of them. Slots and channels are named from 1 here, as in the text.
use Rattle.std.specs.Prelude.{ℕ, ◌+◌, ◌-◌, ◌*◌, Bool, true, false, ◌&&◌, ◌||◌, List, [], ◌∷◌, ◌++◌, eqb, leb}
use Rattle.laws.specs.Choice.{pick}
use Rattle.places.specs.Read.{is_digit}

-- a range of numbers: its first and its last
abbrev pub Span : Type 0
Span = ℕ × ℕ

abbrev pub span_has : ℕ → Span → Bool
span_has x r = leb r.0 x && leb x r.1

-- the ranges of a run so far, and one more: n alone, or from `low` to n where a - stood between; none where there was no number
abbrev pub read_span : (run : List Span) (low n : ℕ) → List Span
read_span run low n = pick (eqb n 0) run (run ++ ((pick (eqb low 0) n low, n) ∷ []))

-- what a byte does to the ranges of the run, to `low` and to n: 45 is -, and 44 is a comma. Any other byte that is no digit ends a number
abbrev pub run_after : (b : ℕ) (run : List Span) (low n : ℕ) → List Span
run_after b run low n = pick (is_digit b) run (pick (eqb b 45) run (pick (eqb b 44) [] (read_span run low n)))

abbrev pub low_after : (b low n : ℕ) → ℕ
low_after b low n = pick (is_digit b) low (pick (eqb b 45) n 0)

abbrev pub read_after : (b n : ℕ) → ℕ
read_after b n = pick (is_digit b) (10 * n + (b - 48)) 0

-- a comma ends the run
abbrev pub run_ended : (b : ℕ) (run : List Span) (low n : ℕ) → List (List Span)
run_ended b run low n = pick (is_digit b) [] (pick (eqb b 44) (read_span run low n ∷ []) [])

-- the runs of a text, where the digits so far make n
unfoldable pub runs_read_from : (run : List Span) (low n : ℕ) → List ℕ → List (List Span)
runs_read_from run low n [] = read_span run low n ∷ []
runs_read_from run low n (b ∷ text) = run_ended b run low n ++ runs_read_from (run_after b run low n) (low_after b low n) (read_after b n) text

abbrev pub runs_told : List ℕ → List (List Span)
runs_told text = runs_read_from [] 0 0 text

-- whether one of a list passes a test
unfoldable pub some_in : {A : Type 0} → (A → Bool) → List A → Bool
some_in p [] = false
some_in p (x ∷ l) = p x || some_in p l

abbrev pub is_none : {A : Type 0} → List A → Bool
is_none [] = true
is_none (x ∷ l) = false

-- whether a run has a slot and a channel
abbrev pub run_has : (slot channel : ℕ) → List Span → Bool
run_has slot channel [] = false
run_has slot channel (r ∷ named) = span_has slot r && (is_none named || some_in (span_has channel) named)

-- what stands after the first colon, which is 58
unfoldable pub past_colon : List ℕ → List ℕ
past_colon [] = []
past_colon (b ∷ text) = pick (eqb b 58) text (past_colon text)

-- whether a line has a slot and a channel
abbrev pub line_has : (slot channel : ℕ) → List ℕ → Bool
line_has slot channel line = some_in (run_has slot channel) (runs_told (past_colon line))
