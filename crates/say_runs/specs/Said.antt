-- `show SITE --cells`: "a line for each cell instead, runs joined (slots 1-3 all channels, slot 4 channel 1)". What is said of a row that has a word of
-- channels for each slot, bit f for the channel at index f. Slots and channels are counted from 0 here, and named from 1 in the text.
use Rattle.std.specs.Prelude.{ℕ, ◌+◌, ◌-◌, ◌/◌, ◌%◌, ◌^◌, Bool, ◌&&◌, not, List, [], ◌++◌, eqb, length, get_or}
use Rattle.laws.specs.Bits.{bit_at}
use Rattle.laws.specs.Choice.{pick}
use Rattle.laws.specs.Part.{list_of}
use Rattle.laws.specs.Search.{first}
use Rattle.faults.specs.Faults.{in_turn}
use Rattle.phrases.specs.Phrases.{phrase}
use Rattle.phrases.specs.declared.Phrase.{Phrase}
use Rattle.phrases.specs.declared.Phrase.TheVariants.{Silent, Row}
use Rattle.say_runs.specs.Lines.{run_lines, number_rows, slot_rows, one_channel_row, some_channels_row, all_channels_row}
use Rattle.say_runs.specs.Runs.{starts_run, run_stop, run_before}

-- the places from `from` on and below `end`, in the first row, or the one after it where they are more than one; two rows on where a list goes on
unfoldable pub span_phrase : (rows : ℕ) → Bool → (from end : ℕ) → Phrase
span_phrase rows on from end =
    Row (pick on (pick (eqb (from + 1) end) (rows + 2) (rows + 3)) (pick (eqb (from + 1) end) rows (rows + 1))) (from + 1) end 0 0

-- the run that starts at place i
unfoldable pub run_phrase : (rows : ℕ) → List ℕ → ℕ → Phrase
run_phrase rows row i = pick (starts_run row i) (span_phrase rows (run_before row i) i (run_stop row i)) Silent

-- ---- the channels of a word

-- its bits, 16 of them: a site has no more channels
abbrev pub channel_bits : ℕ → List ℕ
channel_bits word = list_of (λ f. word / 2 ^ f % 2) 16

abbrev pub number_said : List ℕ → ℕ → List ℕ
number_said row i = phrase run_lines (run_phrase number_rows row i)

-- the numbers of the places where a row is not 0, runs joined
abbrev pub spans_said : List ℕ → List ℕ
spans_said row = in_turn (number_said row) (length row)

-- the channels are named where there are several, and not all are meant
abbrev pub channels_named : (channels word : ℕ) → Bool
channels_named channels word = not (eqb channels 1) && not (eqb word (2 ^ channels - 1))

-- "all channels", "channel 1"; of a site with one channel nothing is said
abbrev pub channels_head : (channels word : ℕ) → Phrase
channels_head channels word =
    pick (eqb channels 1) Silent
    (pick (eqb word (2 ^ channels - 1)) (Row all_channels_row 0 0 0 0)
    (Row (pick (eqb (2 ^ first (bit_at word) 0 16) word) one_channel_row some_channels_row) 0 0 0 0))

unfoldable pub channels_said : (channels word : ℕ) → List ℕ
channels_said channels word =
    phrase run_lines (channels_head channels word) ++ pick (channels_named channels word) (spans_said (channel_bits word)) []

-- ---- the slots of a row

-- the run that starts at a slot: its slots, and their channels
unfoldable pub run_said : (channels : ℕ) → List ℕ → ℕ → List ℕ
run_said channels row slot =
    phrase run_lines (run_phrase slot_rows row slot) ++ pick (starts_run row slot) (channels_said channels (get_or row slot 0)) []

abbrev pub runs_said : (channels : ℕ) → List ℕ → List ℕ
runs_said channels row = in_turn (run_said channels row) (length row)
