-- For any arguments one answer and one content of what is lent meet the contract, and no other, in crate `say_slots`: by its equalities alone.
-- Made by tools/surface from the source. Assumes nothing.
use Rattle.std.specs.Prelude.{List, length, refl, ℕ, ◌+◌, ◌≡◌}
use Rattle.contracts.specs.SaySlotsSays.{SaySlotsChannelHigh, SaySlotsEverySlot, SaySlotsPutBand, SaySlotsPutBandName, SaySlotsPutEdge, SaySlotsPutMarks}
use Rattle.contracts.specs.SaySlotsSays.{SaySlotsPutNumbers, SaySlotsSlotWide}
use Rattle.drawing.specs.Lines.{band_lines}
use Rattle.drawing.specs.Places.{channel_high, slot_wide}
use Rattle.drawing.specs.Slots.{edge_phrase, every_slot, frame_phrase, marks_of_kind, name_phrase, slot_numbers}
use Rattle.phrases.specs.Phrases.{phrase}
use Rattle.site.specs.declared.Site.{Site}
use Rattle.std.proofs.lemmas.List.Edits.{sets}

-- say_slots::slot_wide
pub say_slots_slot_wide-one : (site : Site)
    → (r : ℕ) × (SaySlotsSlotWide site r)
    × ((q : ℕ) → SaySlotsSlotWide site q → (q ≡ r))
say_slots_slot_wide-one site = (
  slot_wide site,
  record { answer = refl },
  λ q says. says.answer,
)

-- say_slots::channel_high
pub say_slots_channel_high-one : (site : Site)
    → (r : ℕ) × (SaySlotsChannelHigh site r)
    × ((q : ℕ) → SaySlotsChannelHigh site q → (q ≡ r))
say_slots_channel_high-one site = (
  channel_high site,
  record { answer = refl },
  λ q says. says.answer,
)

-- say_slots::put_marks
pub say_slots_put_marks-one : (out : List ℕ) (at : ℕ) (site : Site) (table : List ℕ) (clash : List ℕ) (mark : ℕ) (i : ℕ) (channel : ℕ)
    → (r : ℕ) × (out' : List ℕ) × (SaySlotsPutMarks out at site table clash mark i channel r out')
    × ((q : ℕ) (out'' : List ℕ) → SaySlotsPutMarks out at site table clash mark i channel q out'' → (q ≡ r) × (out'' ≡ out'))
say_slots_put_marks-one out at site table clash mark i channel = (
  at + length (marks_of_kind site table mark i channel site.slots),
  sets out at (marks_of_kind site table mark i channel site.slots),
  record { answer = refl; out_after = refl },
  λ q out'' says. (says.answer, says.out_after),
)

-- say_slots::put_edge
pub say_slots_put_edge-one : (out : List ℕ) (at : ℕ) (site : Site) (i : ℕ) (channel : ℕ)
    → (r : ℕ) × (out' : List ℕ) × (SaySlotsPutEdge out at site i channel r out')
    × ((q : ℕ) (out'' : List ℕ) → SaySlotsPutEdge out at site i channel q out'' → (q ≡ r) × (out'' ≡ out'))
say_slots_put_edge-one out at site i channel = (
  at + length (phrase band_lines (edge_phrase site i channel)),
  sets out at (phrase band_lines (edge_phrase site i channel)),
  record { answer = refl; out_after = refl },
  λ q out'' says. (says.answer, says.out_after),
)

-- say_slots::put_band
pub say_slots_put_band-one : (out : List ℕ) (at : ℕ) (site : Site) (i : ℕ)
    → (r : ℕ) × (out' : List ℕ) × (SaySlotsPutBand out at site i r out')
    × ((q : ℕ) (out'' : List ℕ) → SaySlotsPutBand out at site i q out'' → (q ≡ r) × (out'' ≡ out'))
say_slots_put_band-one out at site i = (
  at + length (phrase band_lines (frame_phrase site i)),
  sets out at (phrase band_lines (frame_phrase site i)),
  record { answer = refl; out_after = refl },
  λ q out'' says. (says.answer, says.out_after),
)

-- say_slots::put_band_name
pub say_slots_put_band_name-one : (out : List ℕ) (at : ℕ) (site : Site) (i : ℕ)
    → (r : ℕ) × (out' : List ℕ) × (SaySlotsPutBandName out at site i r out')
    × ((q : ℕ) (out'' : List ℕ) → SaySlotsPutBandName out at site i q out'' → (q ≡ r) × (out'' ≡ out'))
say_slots_put_band_name-one out at site i = (
  at + length (phrase band_lines (name_phrase site i)),
  sets out at (phrase band_lines (name_phrase site i)),
  record { answer = refl; out_after = refl },
  λ q out'' says. (says.answer, says.out_after),
)

-- say_slots::every_slot
pub say_slots_every_slot-one : (site : Site)
    → (r : ℕ) × (SaySlotsEverySlot site r)
    × ((q : ℕ) → SaySlotsEverySlot site q → (q ≡ r))
say_slots_every_slot-one site = (
  every_slot site,
  record { answer = refl },
  λ q says. says.answer,
)

-- say_slots::put_numbers
pub say_slots_put_numbers-one : (out : List ℕ) (at : ℕ) (site : Site)
    → (r : ℕ) × (out' : List ℕ) × (SaySlotsPutNumbers out at site r out')
    × ((q : ℕ) (out'' : List ℕ) → SaySlotsPutNumbers out at site q out'' → (q ≡ r) × (out'' ≡ out'))
say_slots_put_numbers-one out at site = (
  at + length (slot_numbers site site.slots),
  sets out at (slot_numbers site site.slots),
  record { answer = refl; out_after = refl },
  λ q out'' says. (says.answer, says.out_after),
)
