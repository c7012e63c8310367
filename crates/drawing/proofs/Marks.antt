-- "The marks of the slot map, read back from the text, are the plan's reservations, no more and no fewer"; and the marks of what must not be are the
-- reservations that clash or stand at a blocked place. The text of each element gives its marks, whatever follows: a row of the kind that is read its run,
-- every other row nothing. So the text of the bands gives the runs of each channel of each cell; and a place is covered by one of them exactly where the
-- cell has the mark.
--     bands-read     the marks of the bands, of reservations or of those that must not be
--     marks-are      a place is covered exactly where it is marked
-- Assumes nothing.
use Prim.Native.Nat.{ℕ, zero, suc, ◌+◌, ◌-◌, ◌*◌, ◌≤◌, ◌<◌}
use Prim.Native.String.{String}
use mathlib.Core.Path.{◌≡◌, refl, sym, ap, ◌∙◌, subst}
use mathlib.Core.Bool.{Bool, true, false, ◌&&◌, ◌||◌, not}
use mathlib.Core.List.{List, [], ◌∷◌, ◌++◌, append_assoc, append-nil}
use native.Mathlib.Nat.{add-mul, mul-le-mul_right}
use native.Mathlib.Omega.{arith}
use lib.Dec.{eqb, leb}
use lib.ListN.{get_or}
use borrow.Author.Tests.{leb-true, le-leb, eqb-true, eq-eqb}
use Rattle.laws.specs.Choice.{pick}
use Rattle.laws.specs.Sum.{any}
use Rattle.laws.proofs.Choice.{both, both_is, alike}
use Rattle.laws.proofs.Any.{any_here, any_some}
use Rattle.laws.proofs.Grid.{row_before}
use Rattle.laws.proofs.Search.{first-most, first-least}
use Rattle.faults.specs.Faults.{in_turn, passed}
use Rattle.speech.specs.Speech.{bytes, spoken}
use Rattle.phrases.specs.Phrases.{phrase, row_named}
use Rattle.phrases.specs.declared.Phrase.{Phrase}
use Rattle.phrases.specs.declared.Phrase.TheVariants.{Silent, Row}
use Rattle.readback.specs.Back.{values_from, spaced, unlike, unlike_at}
use Rattle.readback.proofs.Back.{read-row, read-unlike}
use Rattle.site.specs.declared.Site.{Site}
use Rattle.site.proofs.Faults.{Sized}
use Rattle.drawing.specs.Lines.{mark_lines, band_lines, sends_mark, wrong_mark}
use Rattle.drawing.specs.Places.{slot_wide, channel_high, across_of, down_of}
use Rattle.drawing.specs.Slots.{marked_in, run_begins, run_past, mark_phrase, marks_of_kind, edge_phrase, frame_phrase, name_phrase}
use Rattle.drawing.specs.Slots.{channel_said, band_said, bands_said}
use Rattle.drawing.specs.Read.{covers_place, covered}
use Rattle.drawing.specs.Runs.{mark_numbers, run_mark, run_marks}
use Rattle.drawing.proofs.Places.{wide-some, high-some, high-most, across-most, down-most, across-back, past_back, down-one}
use Rattle.drawing.proofs.Covers.{run-marked, run-found}
use Rattle.drawing.proofs.Gives.{Gives, gives_both, gives-joined, joined-nothing, gives-phrase, some-joined, some_one, one-some}

-- what stands after the < of a reservation, and of one that must not be
abbrev pub sends_tail : List ℕ
sends_tail = bytes "rect x=\"@1\" y=\"@2\" width=\"@3\" height=\"@4\"/>\n"

abbrev pub wrong_tail : List ℕ
wrong_tail = bytes "path class=\"wrong\" d=\"M@1 @2 h@3 v@4 h-@3 z\"/>\n"

-- ---- a mark of the kind that is read gives its numbers, and one of another kind nothing

abbrev Own : List ℕ → ℕ → Type 0
Own tail mark =
    (a b c d : ℕ) (t : Bool) → a < 100000 → b < 100000 → c < 100000 → d < 100000
    → Gives tail (phrase mark_lines (pick t (Row mark a b c d) Silent)) (pick t (mark_numbers mark a b c d ∷ []) [])

own-sends : Own sends_tail sends_mark
unfolding mark_lines values_from spaced unlike unlike_at
own-sends a b c d true p q r z rest = read-row sends_tail a b c d [] rest p q r z refl refl refl
own-sends a b c d false p q r z rest = refl

own-wrong : Own wrong_tail wrong_mark
unfolding mark_lines values_from spaced unlike unlike_at
own-wrong a b c d true p q r z rest = read-row wrong_tail a b c d (c ∷ []) rest p q r z refl refl refl
own-wrong a b c d false p q r z rest = refl

abbrev Unlike : List ℕ → ℕ → Type 0
Unlike tail mark = unlike (60 ∷ tail) (bytes (row_named mark_lines mark)) ≡ true

other-marks : (tail : List ℕ) (mark a b c d : ℕ) (t : Bool) → Unlike tail mark → Gives tail (phrase mark_lines (pick t (Row mark a b c d) Silent)) []
other-marks tail mark a b c d true e rest = read-unlike tail a b c d (bytes (row_named mark_lines mark)) rest e
other-marks tail mark a b c d false e rest = refl

-- ---- the text of the bands

module _ (s : Site) (t : List ℕ) (sizes : Sized s) where
  past-most : (mark i channel slot : ℕ) → slot < s.slots → run_past s t mark i channel slot ≤ s.slots
  unfolding run_past
  past-most mark i channel slot l = first-most (λ j. not (marked_in s t mark i channel j)) slot s.slots (omega arith)

  abbrev kind : (mark i channel : ℕ) → List ℕ
  kind mark i channel = marks_of_kind s t mark i channel s.slots

  runs-read : (tail : List ℕ) (mark : ℕ) → Own tail mark → (i channel : ℕ) → i < s.cells → channel < s.channels
      → Gives tail (kind mark i channel) (run_marks s t mark i channel s.slots)
  runs-read tail mark own i channel l m =
      gives-joined tail _ _ s.slots (λ slot k.
      own (across_of s slot) (down_of s i channel) ((run_past s t mark i channel slot - slot) * slot_wide s) (channel_high s)
      (run_begins s t mark i channel slot)
      (omega (arith, across-most s sizes slot (omega arith)))
      (omega (arith, down-most s sizes i channel l m))
      (omega (arith, across-most s sizes (run_past s t mark i channel slot - slot) (omega (arith, past-most mark i channel slot k))))
      (omega (arith, high-most s)))

  others-read : (tail : List ℕ) (mark i channel : ℕ) → Unlike tail mark → Gives tail (kind mark i channel) []
  others-read tail mark i channel e =
      joined-nothing tail _ s.slots (λ slot k. other-marks tail mark _ _ _ _ (run_begins s t mark i channel slot) e)

  abbrev kinds : (i channel : ℕ) → List ℕ
  kinds i channel = in_turn (λ mark. kind mark i channel) 4

  kinds-sends : (i channel : ℕ) → i < s.cells → channel < s.channels → Gives sends_tail (kinds i channel) (run_marks s t sends_mark i channel s.slots)
  unfolding in_turn mark_lines unlike unlike_at
  kinds-sends i channel l m =
      let run : ℕ → List ℕ = λ mark. kind mark i channel in
      let own : List (List ℕ) = run_marks s t sends_mark i channel s.slots in
      let none : (mark : ℕ) → Unlike sends_tail mark → Gives sends_tail (run mark) [] = λ mark. others-read sends_tail mark i channel in
      let two = gives_both sends_tail (run 0) (run 1) [] [] (none 0 refl) (none 1 refl) in
      let three = gives_both sends_tail (run 0 ++ run 1) (run 2) [] own two (runs-read sends_tail sends_mark own-sends i channel l m) in
      let four = gives_both sends_tail ((run 0 ++ run 1) ++ run 2) (run 3) own [] three (none 3 refl) in
      subst (λ (x : List (List ℕ)). Gives sends_tail (kinds i channel) x) (append-nil own) four

  kinds-wrong : (i channel : ℕ) → i < s.cells → channel < s.channels → Gives wrong_tail (kinds i channel) (run_marks s t wrong_mark i channel s.slots)
  unfolding in_turn mark_lines unlike unlike_at
  kinds-wrong i channel l m =
      let run : ℕ → List ℕ = λ mark. kind mark i channel in
      let own : List (List ℕ) = run_marks s t wrong_mark i channel s.slots in
      let none : (mark : ℕ) → Unlike wrong_tail mark → Gives wrong_tail (run mark) [] = λ mark. others-read wrong_tail mark i channel in
      let two = gives_both wrong_tail (run 0) (run 1) [] [] (none 0 refl) (none 1 refl) in
      let three = gives_both wrong_tail (run 0 ++ run 1) (run 2) [] [] two (none 2 refl) in
      gives_both wrong_tail ((run 0 ++ run 1) ++ run 2) (run 3) [] own three (runs-read wrong_tail wrong_mark own-wrong i channel l m)

  -- the marks of a cell
  abbrev pub cell_marks : (mark i : ℕ) → List (List ℕ)
  cell_marks mark i = in_turn (λ channel. run_marks s t mark i channel s.slots) s.channels

  module _ (tail : List ℕ) (mark : ℕ) (frames : (p : Phrase) → Gives tail (phrase band_lines p) [])
      (all : (i channel : ℕ) → i < s.cells → channel < s.channels → Gives tail (kinds i channel) (run_marks s t mark i channel s.slots)) where
    channel-read : (i channel : ℕ) → i < s.cells → channel < s.channels → Gives tail (channel_said s t i channel) (run_marks s t mark i channel s.slots)
    channel-read i channel l m =
        let own : List (List ℕ) = run_marks s t mark i channel s.slots in
        let edge : List ℕ = phrase band_lines (edge_phrase s i channel) in
        let both-parts = gives_both tail (kinds i channel) edge own [] (all i channel l m) (frames (edge_phrase s i channel)) in
        subst (λ (x : List (List ℕ)). Gives tail (channel_said s t i channel) x) (append-nil own) both-parts

    band-read : (i : ℕ) → i < s.cells → Gives tail (band_said s t i) (cell_marks mark i)
    band-read i l =
        let own : ℕ → List (List ℕ) = λ channel. run_marks s t mark i channel s.slots in
        let channels = gives-joined tail (channel_said s t i) own s.channels (λ channel m. channel-read i channel l m) in
        let frame : List ℕ = phrase band_lines (frame_phrase s i) in
        let name : List ℕ = phrase band_lines (name_phrase s i) in
        let words = gives_both tail frame name [] [] (frames (frame_phrase s i)) (frames (name_phrase s i)) in
        subst (λ (x : List (List ℕ)). Gives tail (band_said s t i) x) (append-nil (cell_marks mark i))
        (gives_both tail (in_turn (channel_said s t i) s.channels) (frame ++ name) (cell_marks mark i) [] channels words)

    bands-of : Gives tail (bands_said s t s.cells) (in_turn (cell_marks mark) s.cells)
    bands-of = gives-joined tail (band_said s t) (cell_marks mark) s.cells (λ i l. band-read i l)

  pub sends-read : Gives sends_tail (bands_said s t s.cells) (in_turn (cell_marks sends_mark) s.cells)
  unfolding band_lines unlike unlike_at
  sends-read = bands-of sends_tail sends_mark (gives-phrase sends_tail band_lines refl) kinds-sends

  pub wrong-read : Gives wrong_tail (bands_said s t s.cells) (in_turn (cell_marks wrong_mark) s.cells)
  unfolding band_lines unlike unlike_at
  wrong-read = bands-of wrong_tail wrong_mark (gives-phrase wrong_tail band_lines refl) kinds-wrong

-- ---- which places they cover

module _ (s : Site) (t : List ℕ) (sizes : Sized s) (mark : ℕ) where
  -- from slot a, so many slots on
  span : (a b : ℕ) → a ≤ b → a * slot_wide s + (b - a) * slot_wide s ≡ b * slot_wide s
  span a b l = let e : a + (b - a) ≡ b = omega arith in sym (add-mul a (b - a) (slot_wide s)) ∙ ap (λ (x : ℕ). x * slot_wide s) e

  past-least : (i channel slot : ℕ) → slot ≤ run_past s t mark i channel slot
  unfolding run_past
  past-least i channel slot = first-least (λ j. not (marked_in s t mark i channel j)) slot s.slots

  -- a mark that covers a place is in its band and channel, and its run has the slot
  covers-there : (i channel slot j other from : ℕ) → channel < s.channels → other < s.channels
      → covers_place s i channel slot (run_mark s t mark j other from) ≡ true
      → (j ≡ i) × (other ≡ channel) × (from ≤ slot) × (slot < run_past s t mark j other from)
  unfolding covers_place
  covers-there i channel slot j other from l m e =
      let p = both _ (eqb (down_of s j other) (down_of s i channel) && eqb (channel_high s) (channel_high s)) e in
      let q = both (leb (across_of s from) (across_of s slot)) _ p.0 in
      let r = both (eqb (down_of s j other) (down_of s i channel)) _ p.1 in
      let past = run_past s t mark j other from in
      let one = down-one s sizes j i other channel m l (eqb-true _ _ r.0) in
      let ends : across_of s slot + slot_wide s ≤ across_of s from + (past - from) * slot_wide s = leb-true _ _ q.1 in (
        one.0,
        one.1,
        across-back s sizes from slot (leb-true _ _ q.0),
        past_back s sizes slot past (omega (arith, span from past (past-least j other from), wide-some s sizes)),
      )

  -- so that the cell has the mark there
  covers-marked : (i channel slot j other from : ℕ) → channel < s.channels → other < s.channels
      → covers_place s i channel slot (run_mark s t mark j other from) ≡ true → marked_in s t mark i channel slot ≡ true
  unfolding run_past
  covers-marked i channel slot j other from l m e =
      let w = covers-there i channel slot j other from l m e in
      let so : marked_in s t mark j other slot ≡ true = run-marked (marked_in s t mark j other) s.slots from slot w.2 w.3 in
      rw (w.0, w.1) at so

  there-covers : (i channel slot from : ℕ) → from ≤ slot → slot < run_past s t mark i channel from
      → covers_place s i channel slot (run_mark s t mark i channel from) ≡ true
  unfolding covers_place
  there-covers i channel slot from l m =
      let past = run_past s t mark i channel from in
      both_is _ _
      (both_is _ _ (le-leb (across_of s from) (across_of s slot) (omega (arith, mul-le-mul_right (slot_wide s) l)))
      (le-leb (across_of s slot + slot_wide s) (across_of s from + (past - from) * slot_wide s)
      (omega (arith, row_before (slot_wide s) m, span from past (past-least i channel from)))))
      (both_is _ _ (eq-eqb (down_of s i channel) (down_of s i channel) refl) (eq-eqb (channel_high s) (channel_high s) refl))

  -- the marks of a table, and its places
  module _ (i channel slot : ℕ) (il : i < s.cells) (cl : channel < s.channels) (sl : slot < s.slots) where
    abbrev marks : List (List ℕ)
    marks = in_turn (cell_marks s t sizes mark) s.cells

    more : covered s i channel slot marks ≡ true → marked_in s t mark i channel slot ≡ true
    more h =
        let a = any_some _ s.cells (sym (some-joined (covers_place s i channel slot) (cell_marks s t sizes mark) s.cells) ∙ h) in
        let b = any_some _ s.channels (sym (some-joined (covers_place s i channel slot) (λ c. run_marks s t mark a.0 c s.slots) s.channels) ∙ a.2) in
        let d = any_some _ s.slots (sym (some-joined (covers_place s i channel slot) _ s.slots) ∙ b.2) in
        let one = some_one (covers_place s i channel slot) (run_begins s t mark a.0 b.0 d.0) (run_mark s t mark a.0 b.0 d.0) d.2 in
        covers-marked i channel slot a.0 b.0 d.0 cl b.1 one.1

    fewer : marked_in s t mark i channel slot ≡ true → covered s i channel slot marks ≡ true
    unfolding run_past run_begins
    fewer h =
        let r = run-found (marked_in s t mark i channel) s.slots slot sl h in
        let there = there-covers i channel slot r.0 r.1 r.3 in
        some-joined (covers_place s i channel slot) (cell_marks s t sizes mark) s.cells
        ∙ any_here _ s.cells i il
        (some-joined (covers_place s i channel slot) (λ c. run_marks s t mark i c s.slots) s.channels
        ∙ any_here _ s.channels channel cl
        (some-joined (covers_place s i channel slot) _ s.slots
        ∙ any_here _ s.slots r.0 (omega (arith, r.1))
        (one-some (covers_place s i channel slot) _ _ r.2 there)))

    pub marks-are : covered s i channel slot marks ≡ marked_in s t mark i channel slot
    marks-are = alike _ _ more fewer
