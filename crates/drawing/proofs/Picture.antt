-- What is read back from the text of a whole picture: no part of it but the bands gives a reservation, and none but the lines of the range map an arc or an
-- arrow.
--     picture-marks                       a place is covered by a mark exactly where the plan has a reservation
--     picture-wrong                       and by a mark of what must not be exactly where it clashes or stands at a blocked place
--     picture-arcs, picture-arrows        arcs and arrows are the record's reach
-- Assumes nothing.
use Prim.Native.Nat.{ℕ, ◌<◌}
use Prim.Native.String.{String}
use mathlib.Core.Path.{◌≡◌, refl, sym, ap, ◌∙◌, subst}
use mathlib.Core.Bool.{Bool, true, ◌&&◌, ◌||◌}
use mathlib.Core.List.{List, [], ◌∷◌, ◌++◌, append-nil}
use native.Mathlib.Omega.{arith}
use Rattle.laws.specs.Sum.{any}
use Rattle.laws.proofs.Choice.{both}
use Rattle.theory.specs.Greedy.{reserved}
use Rattle.faults.specs.Faults.{in_turn}
use Rattle.speech.specs.Speech.{bytes}
use Rattle.phrases.specs.Phrases.{phrase}
use Rattle.phrases.specs.declared.Phrase.{Phrase}
use Rattle.phrases.specs.declared.Phrase.TheVariants.{Row}
use Rattle.readback.specs.Back.{rows_heard, unlike, unlike_at}
use Rattle.positions.specs.Blocked.{blocked_at}
use Rattle.site.specs.Record.{positions}
use Rattle.site.specs.Reach.{reaches, clash_of}
use Rattle.site.specs.declared.Site.{Site}
use Rattle.site.proofs.Faults.{Sized}
use Rattle.drawing.specs.Lines.{mark_lines, band_lines, sends_mark, wrong_mark}
use Rattle.drawing.specs.Slots.{position_at, meets, marked_as, mark_phrase, marks_of_kind, edge_phrase, frame_phrase, name_phrase}
use Rattle.drawing.specs.Slots.{slot_phrase, slot_numbers, channel_said, band_said, bands_said}
use Rattle.drawing.specs.Range.{reach_lines, circle_lines, one_way, line_phrase, lines_of, lines_said, circle_phrase, ring_phrase, nodes_said}
use Rattle.drawing.specs.Picture.{picture_head, fact_lines, picture_tail, head_rows, tail_rows, picture_head_row, picture_tail_row, facts_phrase}
use Rattle.drawing.specs.Picture.{head_said, tail_said, picture_said}
use Rattle.drawing.specs.Loads.{load_lines, before_bar, load_bar, over_mark, amount_row, bar_by, bar_said, bars_said, room_line}
use Rattle.drawing.specs.Read.{sends_read, wrong_read, arcs_read, arrows_read, covered, drawn_from}
use Rattle.drawing.proofs.Gives.{Gives, gives_both, joined-nothing, gives-phrase, all_unlike}
use Rattle.drawing.proofs.Marks.{sends_tail, wrong_tail, cell_marks, sends-read, wrong-read, marks-are}
use Rattle.drawing.proofs.Reach.{arc_tail, arrow_tail, arc_marks, arrow_marks, lines-arcs, lines-arrows, arcs-are, arrows-are}

-- the tables that a row is not in
abbrev besides : List ℕ → Bool
besides row =
    (all_unlike row picture_head && (all_unlike row fact_lines && all_unlike row circle_lines))
    && (all_unlike row load_lines && (all_unlike row band_lines && all_unlike row picture_tail))

-- the parts that give nothing to a reader of such a row
module _ (row : List ℕ) (fine : besides row ≡ true) (s : Site) where
  abbrev above : (all_unlike row picture_head && (all_unlike row fact_lines && all_unlike row circle_lines)) ≡ true
  above = (both (all_unlike row picture_head && (all_unlike row fact_lines && all_unlike row circle_lines)) _ fine).0

  abbrev below : (all_unlike row load_lines && (all_unlike row band_lines && all_unlike row picture_tail)) ≡ true
  below = (both (all_unlike row picture_head && (all_unlike row fact_lines && all_unlike row circle_lines)) _ fine).1

  abbrev words : (all_unlike row fact_lines && all_unlike row circle_lines) ≡ true
  words = (both (all_unlike row picture_head) _ above).1

  abbrev last-fine : (all_unlike row band_lines && all_unlike row picture_tail) ≡ true
  last-fine = (both (all_unlike row load_lines) _ below).1

  head-gives : Gives row (head_said s head_rows) []
  head-gives =
      joined-nothing row _ head_rows (λ k l. gives-phrase row picture_head (both (all_unlike row picture_head) _ above).0 (picture_head_row s k))

  facts-give : Gives row (phrase fact_lines (facts_phrase s)) []
  facts-give = gives-phrase row fact_lines (both (all_unlike row fact_lines) (all_unlike row circle_lines) words).0 (facts_phrase s)

  tail-gives : Gives row (tail_said s tail_rows) []
  tail-gives =
      joined-nothing row _ tail_rows (λ k l.
      gives-phrase row picture_tail (both (all_unlike row band_lines) (all_unlike row picture_tail) last-fine).1 (picture_tail_row s k))

  band-phrase : (p : Phrase) → Gives row (phrase band_lines p) []
  band-phrase = gives-phrase row band_lines (both (all_unlike row band_lines) (all_unlike row picture_tail) last-fine).0

  circle-phrase : (p : Phrase) → Gives row (phrase circle_lines p) []
  circle-phrase = gives-phrase row circle_lines (both (all_unlike row fact_lines) (all_unlike row circle_lines) words).1

  load-phrase : (p : Phrase) → Gives row (phrase load_lines p) []
  load-phrase = gives-phrase row load_lines (both (all_unlike row load_lines) _ below).0

  nodes-give : (heavy : ℕ) → Gives row (nodes_said s heavy s.cells) []
  nodes-give heavy =
      joined-nothing row _ s.cells (λ i l.
      gives_both row (phrase circle_lines (circle_phrase s i)) (phrase circle_lines (ring_phrase s heavy i)) [] []
      (circle-phrase (circle_phrase s i)) (circle-phrase (ring_phrase s heavy i)))

  bar-gives : (x load before most scale : ℕ) → Gives row (bar_by x load before most scale) []
  bar-gives x load before most scale =
      let amount : Phrase = Row amount_row x load 0 0 in
      let over : Phrase = over_mark x load before most scale in
      let own : Phrase = load_bar x load before scale in
      let first : Phrase = before_bar x load before scale in
      let two = gives_both row (phrase load_lines over) (phrase load_lines amount) [] [] (load-phrase over) (load-phrase amount) in
      let three = gives_both row (phrase load_lines own) (phrase load_lines over ++ phrase load_lines amount) [] [] (load-phrase own) two in
      gives_both row (phrase load_lines first) (phrase load_lines own ++ (phrase load_lines over ++ phrase load_lines amount)) [] [] (load-phrase first) three

  bars-give : Gives row (bars_said s s.cells) []
  bars-give = joined-nothing row (bar_said s) s.cells (λ i l. bar-gives _ _ _ _ _)

  numbers-give : Gives row (slot_numbers s s.slots) []
  numbers-give = joined-nothing row _ s.slots (λ slot l. band-phrase (slot_phrase s slot))

  -- and where neither the marks of the slot map are of that row
  bands-give : (t : List ℕ) → all_unlike row mark_lines ≡ true → Gives row (bands_said s t s.cells) []
  bands-give t e =
      joined-nothing row _ s.cells (λ i l.
      let frame : List ℕ = phrase band_lines (frame_phrase s i) in
      let name : List ℕ = phrase band_lines (name_phrase s i) in
      gives_both row (in_turn (channel_said s t i) s.channels) (frame ++ name) [] []
      (joined-nothing row _ s.channels (λ channel m.
      gives_both row (in_turn (λ mark. marks_of_kind s t mark i channel s.slots) 4) (phrase band_lines (edge_phrase s i channel)) [] []
      (joined-nothing row (λ mark. marks_of_kind s t mark i channel s.slots) 4 (λ mark n.
      joined-nothing row (λ slot. phrase mark_lines (mark_phrase s t mark i channel slot)) s.slots
      (λ slot o. gives-phrase row mark_lines e (mark_phrase s t mark i channel slot))))
      (band-phrase (edge_phrase s i channel))))
      (gives_both row frame name [] [] (band-phrase (frame_phrase s i)) (band-phrase (name_phrase s i))))

  -- the whole, by what its lines and its bands give
  whole : (t : List ℕ) (heavy : ℕ) (l m : List (List ℕ)) → Gives row (lines_said s s.cells) l → Gives row (bands_said s t s.cells) m
      → rows_heard (60 ∷ row) (picture_said s t heavy) ≡ l ++ m
  unfolding rows_heard
  whole t heavy l m g h =
      let tail : List ℕ = tail_said s tail_rows in
      let seven = gives_both row (bands_said s t s.cells) tail m [] h tail-gives in
      let six = gives_both row (slot_numbers s s.slots) _ [] (m ++ []) numbers-give seven in
      let five = gives_both row (phrase load_lines (room_line s)) _ [] (m ++ []) (load-phrase (room_line s)) six in
      let four = gives_both row (bars_said s s.cells) _ [] (m ++ []) bars-give five in
      let three = gives_both row (nodes_said s heavy s.cells) _ [] (m ++ []) (nodes-give heavy) four in
      let two = gives_both row (lines_said s s.cells) _ l (m ++ []) g three in
      let one = gives_both row (phrase fact_lines (facts_phrase s)) _ [] (l ++ (m ++ [])) facts-give two in
      let all = gives_both row (head_said s head_rows) _ [] (l ++ (m ++ [])) head-gives one in
      ap (rows_heard (60 ∷ row)) (sym (append-nil (picture_said s t heavy))) ∙ all []
      ∙ append-nil (l ++ (m ++ [])) ∙ ap (λ (x : List (List ℕ)). l ++ x) (append-nil m)

fine-sends : besides sends_tail ≡ true
unfolding picture_head fact_lines circle_lines load_lines band_lines picture_tail unlike unlike_at
fine-sends = refl

fine-wrong : besides wrong_tail ≡ true
unfolding picture_head fact_lines circle_lines load_lines band_lines picture_tail unlike unlike_at
fine-wrong = refl

fine-arcs : besides arc_tail ≡ true
unfolding picture_head fact_lines circle_lines load_lines band_lines picture_tail unlike unlike_at
fine-arcs = refl

fine-arrows : besides arrow_tail ≡ true
unfolding picture_head fact_lines circle_lines load_lines band_lines picture_tail unlike unlike_at
fine-arrows = refl

lines-no-sends : all_unlike sends_tail reach_lines ≡ true
unfolding reach_lines unlike unlike_at
lines-no-sends = refl

lines-no-wrong : all_unlike wrong_tail reach_lines ≡ true
unfolding reach_lines unlike unlike_at
lines-no-wrong = refl

marks-no-arcs : all_unlike arc_tail mark_lines ≡ true
unfolding mark_lines unlike unlike_at
marks-no-arcs = refl

marks-no-arrows : all_unlike arrow_tail mark_lines ≡ true
unfolding mark_lines unlike unlike_at
marks-no-arrows = refl

module _ (s : Site) (t : List ℕ) (heavy : ℕ) (sizes : Sized s) where
  -- the lines between cells give no marks
  lines-give : (row : List ℕ) → all_unlike row reach_lines ≡ true → Gives row (lines_said s s.cells) []
  lines-give row e =
      joined-nothing row _ s.cells (λ a l. joined-nothing row _ s.cells (λ b m. gives-phrase row reach_lines e (line_phrase s a b)))

  -- the marks that are read back are those of the bands
  marks-read : sends_read (picture_said s t heavy) ≡ in_turn (cell_marks s t sizes sends_mark) s.cells
  marks-read =
      whole sends_tail fine-sends s t heavy [] (in_turn (cell_marks s t sizes sends_mark) s.cells) (lines-give sends_tail lines-no-sends) (sends-read s t sizes)

  wrongs-read : wrong_read (picture_said s t heavy) ≡ in_turn (cell_marks s t sizes wrong_mark) s.cells
  wrongs-read =
      whole wrong_tail fine-wrong s t heavy [] (in_turn (cell_marks s t sizes wrong_mark) s.cells) (lines-give wrong_tail lines-no-wrong) (wrong-read s t sizes)

  -- "the marks of the slot map, read back from the text, are the plan's reservations, no more and no fewer"
  pub picture-marks : (i channel slot : ℕ) → i < s.cells → channel < s.channels → slot < s.slots
      → covered s i channel slot (sends_read (picture_said s t heavy)) ≡ reserved (positions s) t i (position_at s t slot channel)
  unfolding marked_as
  picture-marks i channel slot l m n = ap (covered s i channel slot) marks-read ∙ marks-are s t sizes sends_mark i channel slot l m n

  -- "of a plan that is not valid the clashing positions": the reservations that clash with another, or stand at a blocked place, and no others
  pub picture-wrong : (i channel slot : ℕ) → i < s.cells → channel < s.channels → slot < s.slots
      → let k = position_at s t slot channel in
      covered s i channel slot (wrong_read (picture_said s t heavy))
      ≡ (reserved (positions s) t i k && (blocked_at s.blocked k || any (λ c. reserved (positions s) t c k && clash_of s i c) s.cells))
  unfolding marked_as meets
  picture-wrong i channel slot l m n = ap (covered s i channel slot) wrongs-read ∙ marks-are s t sizes wrong_mark i channel slot l m n

  arcs-read : arcs_read (picture_said s t heavy) ≡ arc_marks s sizes
  arcs-read =
      whole arc_tail fine-arcs s t heavy (arc_marks s sizes) [] (lines-arcs s sizes) (bands-give arc_tail fine-arcs s t marks-no-arcs)
      ∙ append-nil (arc_marks s sizes)

  arrows-read : arrows_read (picture_said s t heavy) ≡ arrow_marks s sizes
  arrows-read =
      whole arrow_tail fine-arrows s t heavy (arrow_marks s sizes) [] (lines-arrows s sizes) (bands-give arrow_tail fine-arrows s t marks-no-arrows)
      ∙ append-nil (arrow_marks s sizes)

  -- "the arcs and arrows are the record's reach"
  pub picture-arcs : (a b : ℕ) → a < b → b < s.cells
      → drawn_from s a b (arcs_read (picture_said s t heavy)) ≡ (reaches s.reach a b && reaches s.reach b a)
  picture-arcs a b l m = ap (drawn_from s a b) arcs-read ∙ arcs-are s sizes a b (omega arith) m l

  pub picture-arrows : (a b : ℕ) → a < s.cells → b < s.cells → drawn_from s a b (arrows_read (picture_said s t heavy)) ≡ one_way s a b
  picture-arrows a b l m = ap (drawn_from s a b) arrows-read ∙ arrows-are s sizes a b l m
