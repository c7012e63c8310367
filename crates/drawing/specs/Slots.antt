-- The slot map: "a band for each cell, slots across, channels down; sends, keeps clear, blocked, silent; of a plan that is not valid the clashing positions".
-- Neighbouring slots that are marked alike are one mark. Cells, slots, channels and positions are counted from 0.
use Rattle.std.specs.Prelude.{ℕ, ◌+◌, ◌-◌, ◌*◌, ◌/◌, ◌%◌, Bool, true, ◌&&◌, ◌||◌, not, List, ◌++◌, eqb, ltb}
use Rattle.laws.specs.Choice.{pick}
use Rattle.laws.specs.Search.{first}
use Rattle.laws.specs.Sum.{any}
use Rattle.theory.specs.Greedy.{reserved}
use Rattle.faults.specs.Faults.{in_turn}
use Rattle.positions.specs.Blocked.{blocked_at}
use Rattle.site.specs.Record.{positions}
use Rattle.site.specs.Reach.{clash_of}
use Rattle.site.specs.declared.Site.{Site}
use Rattle.phrases.specs.Phrases.{phrase}
use Rattle.phrases.specs.declared.Phrase.{Phrase}
use Rattle.phrases.specs.declared.Phrase.TheVariants.{Silent, Row}
use Rattle.drawing.specs.Lines.{mark_lines, band_lines, blocked_mark, clear_mark, sends_mark, edge_row, grid_row, name_row, slot_row}
use Rattle.drawing.specs.Places.{map_left, slot_wide, channel_high, across_of, down_of}

-- ---- frames and words

-- the edge of a channel, where it is high enough to be seen
abbrev pub edge_phrase : Site → ℕ → ℕ → Phrase
edge_phrase s i channel = pick (ltb 7 (channel_high s)) (Row edge_row map_left (down_of s i channel) (s.slots * slot_wide s) (channel_high s)) Silent

-- the frame of a band, with a line after each slot or each eighth, and its name
abbrev pub frame_phrase : Site → ℕ → Phrase
frame_phrase s i = Row grid_row map_left (down_of s i 0) (s.slots * slot_wide s) (s.channels * channel_high s)

abbrev pub name_phrase : Site → ℕ → Phrase
name_phrase s i = Row name_row (down_of s i 0 + (s.channels * channel_high s / 2 + 9)) (i + 1) 0 0

-- ---- marks

module _ (s : Site) (t : List ℕ) where
  -- the position of a slot and a channel
  abbrev pub position_at : ℕ → ℕ → ℕ
  position_at slot channel = slot * s.channels + channel

  -- whether a cell that clashes with cell i sends at position k
  unfoldable pub meets : ℕ → ℕ → Bool
  meets i k = any (λ c. reserved (positions s) t c k && clash_of s i c) s.cells

  -- "keeps clear": it is silent where a cell that clashes with it sends, and where it might have sent
  abbrev pub keeps_clear : ℕ → ℕ → Bool
  keeps_clear i k = not (reserved (positions s) t i k) && (not (blocked_at s.blocked k) && meets i k)

  -- "the clashing positions", and those that are blocked: it sends there, and must not
  abbrev pub sends_wrong : ℕ → ℕ → Bool
  sends_wrong i k = reserved (positions s) t i k && (blocked_at s.blocked k || meets i k)

  -- whether cell i has the mark at position k
  unfoldable pub marked_as : ℕ → ℕ → ℕ → Bool
  marked_as mark i k =
      pick (eqb mark blocked_mark) (blocked_at s.blocked k)
      (pick (eqb mark clear_mark) (keeps_clear i k) (pick (eqb mark sends_mark) (reserved (positions s) t i k) (sends_wrong i k)))

  -- and at a slot and a channel
  abbrev pub marked_in : (mark i channel slot : ℕ) → Bool
  marked_in mark i channel slot = marked_as mark i (position_at slot channel)

  -- a run of marked slots begins here
  unfoldable pub run_begins : (mark i channel slot : ℕ) → Bool
  run_begins mark i channel slot = marked_in mark i channel slot && (eqb slot 0 || not (marked_in mark i channel (slot - 1)))

  -- the slot after the run
  unfoldable pub run_past : (mark i channel slot : ℕ) → ℕ
  run_past mark i channel slot = first (λ j. not (marked_in mark i channel j)) slot s.slots

  -- the mark of a run, where one begins
  abbrev pub mark_phrase : (mark i channel slot : ℕ) → Phrase
  mark_phrase mark i channel slot =
      pick (run_begins mark i channel slot)
      (Row mark (across_of s slot) (down_of s i channel) ((run_past mark i channel slot - slot) * slot_wide s) (channel_high s)) Silent

  -- the marks of one kind in a channel of a band, of the first n slots
  abbrev pub marks_of_kind : (mark i channel n : ℕ) → List ℕ
  marks_of_kind mark i channel n = in_turn (λ slot. phrase mark_lines (mark_phrase mark i channel slot)) n

  -- a channel of a band: the marks of each kind, and its edge
  abbrev pub channel_said : ℕ → ℕ → List ℕ
  channel_said i channel = in_turn (λ mark. marks_of_kind mark i channel s.slots) 4 ++ phrase band_lines (edge_phrase s i channel)

  abbrev pub band_said : ℕ → List ℕ
  band_said i = in_turn (channel_said i) s.channels ++ (phrase band_lines (frame_phrase s i) ++ phrase band_lines (name_phrase s i))

  -- the bands of the first n cells
  abbrev pub bands_said : ℕ → List ℕ
  bands_said n = in_turn band_said n

-- ---- the slots' numbers

-- how many slots there are to a number: each has one up to 32 slots, and from there on each eighth
abbrev pub every_slot : Site → ℕ
every_slot s = pick (ltb 32 s.slots) 8 1

abbrev pub slot_phrase : Site → ℕ → Phrase
slot_phrase s slot = pick (eqb ((slot + 1) % every_slot s) 0) (Row slot_row (across_of s slot + slot_wide s / 2) (slot + 1) 0 0) Silent

-- of the first n slots
abbrev pub slot_numbers : Site → ℕ → List ℕ
slot_numbers s n = in_turn (λ slot. phrase band_lines (slot_phrase s slot)) n
