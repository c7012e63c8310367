-- The equalities that the contracts of crate `say_slots` state: r is the answer, and x' what a lent x holds afterwards.
-- Made by tools/surface from the source.
use Rattle.std.specs.Prelude.{List, length, ℕ, ◌+◌, ◌≡◌}
use Rattle.drawing.specs.Lines.{band_lines}
use Rattle.drawing.specs.Places.{channel_high, slot_wide}
use Rattle.drawing.specs.Slots.{edge_phrase, every_slot, frame_phrase, marks_of_kind, name_phrase, slot_numbers}
use Rattle.phrases.specs.Phrases.{phrase}
use Rattle.site.specs.declared.Site.{Site}
use Rattle.std.proofs.lemmas.List.Edits.{sets}

-- say_slots::slot_wide
pub record SaySlotsSlotWide (site : Site) (r : ℕ) : Type 0 where
  pub answer : r ≡ slot_wide site

-- say_slots::channel_high
pub record SaySlotsChannelHigh (site : Site) (r : ℕ) : Type 0 where
  pub answer : r ≡ channel_high site

-- say_slots::put_marks
pub record SaySlotsPutMarks (out : List ℕ) (at : ℕ) (site : Site) (table : List ℕ) (clash : List ℕ) (mark : ℕ) (i : ℕ) (channel : ℕ) (r : ℕ)
    (out' : List ℕ) : Type 0 where
  pub answer : r ≡ at + length (marks_of_kind site table mark i channel site.slots)
  pub out_after : out' ≡ sets out at (marks_of_kind site table mark i channel site.slots)

-- say_slots::put_edge
pub record SaySlotsPutEdge (out : List ℕ) (at : ℕ) (site : Site) (i : ℕ) (channel : ℕ) (r : ℕ) (out' : List ℕ) : Type 0 where
  pub answer : r ≡ at + length (phrase band_lines (edge_phrase site i channel))
  pub out_after : out' ≡ sets out at (phrase band_lines (edge_phrase site i channel))

-- say_slots::put_band
pub record SaySlotsPutBand (out : List ℕ) (at : ℕ) (site : Site) (i : ℕ) (r : ℕ) (out' : List ℕ) : Type 0 where
  pub answer : r ≡ at + length (phrase band_lines (frame_phrase site i))
  pub out_after : out' ≡ sets out at (phrase band_lines (frame_phrase site i))

-- say_slots::put_band_name
pub record SaySlotsPutBandName (out : List ℕ) (at : ℕ) (site : Site) (i : ℕ) (r : ℕ) (out' : List ℕ) : Type 0 where
  pub answer : r ≡ at + length (phrase band_lines (name_phrase site i))
  pub out_after : out' ≡ sets out at (phrase band_lines (name_phrase site i))

-- say_slots::every_slot
pub record SaySlotsEverySlot (site : Site) (r : ℕ) : Type 0 where
  pub answer : r ≡ every_slot site

-- say_slots::put_numbers
pub record SaySlotsPutNumbers (out : List ℕ) (at : ℕ) (site : Site) (r : ℕ) (out' : List ℕ) : Type 0 where
  pub answer : r ≡ at + length (slot_numbers site site.slots)
  pub out_after : out' ≡ sets out at (slot_numbers site site.slots)
