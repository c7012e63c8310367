-- Pictures of the desk examples, computed: the places of each band, the lines between cells, the bars, and texts letter by letter. Assumes nothing.
use mathlib.Core.List.{[], ◌∷◌, ◌++◌}
use mathlib.Core.Path.{◌≡◌, refl, ◌∙◌}
use Rattle.laws.specs.Search.{first_of}
use Rattle.laws.specs.Sum.{sum, any}
use Rattle.laws.specs.Most.{most}
use Rattle.theory.specs.Verdict.{most_demand}
use Rattle.faults.specs.Faults.{in_turn}
use Rattle.site.specs.Reach.{reaches, reached_by_both, clash_in}
use Rattle.text.specs.Decimal.{digits_of, decimal}
use Rattle.lines.specs.Match.{starts}
use Rattle.lines.specs.Content.{more, scanned}
use Rattle.speech.specs.Speech.{bytes, spoken}
use Rattle.phrases.specs.Phrases.{phrase}
use Rattle.drawing.specs.Lines.{mark_lines, band_lines, blocked_mark, clear_mark, sends_mark, wrong_mark}
use Rattle.drawing.specs.Places.{slot_wide, channel_high, across_of, down_of}
use Rattle.drawing.specs.Slots.{meets, marked_as, run_begins, run_past, band_said, slot_numbers}
use Rattle.drawing.specs.Runs.{run_marks}
use Rattle.drawing.specs.Range.{reach_lines, circle_lines, arc_row, arrow_row, dotted_row, cell_step, bend_of, line_phrase, lines_said, nodes_said}
use Rattle.drawing.specs.Loads.{load_lines, before_bar, load_bar, over_mark, bar_scale, bar_said, bars_said, room_line}
use Rattle.drawing.specs.Picture.{picture_head, fact_lines, picture_tail, tall_of, facts_phrase, picture_said}
use Rattle.drawing.specs.Read.{sends_read, wrong_read, arcs_read, arrows_read}
use Rattle.drawing.proofs.Marks.{sends_tail, wrong_tail}
use Rattle.drawing.proofs.Reach.{arc_tail, arrow_tail}
use Rattle.desktable.specs.Desk.{with_zeros, P1, P2, P3, P3spare, P1blocked, P3ruled, edge_site, alone}
use Rattle.desktable.specs.Pictures.{north_drift, each_line, backwards, full_size, P1plan, P9table, P3table, edge_table, bands_marked, lines_drawn, over_cells}
use Rattle.desktable.proofs.Reader.{numbers_in, heard_in, read_in, read-in}

-- ---- the slot map

-- P1 and its plan. Cell 3 keeps clear for cell 2 alone: it is silent at position 4
places-valid :
    bands_marked P1 P1plan sends_mark ∷ bands_marked P1 P1plan clear_mark ∷ bands_marked P1 P1plan blocked_mark ∷ bands_marked P1 P1plan wrong_mark ∷ []
    ≡ ((0 ∷ 1 ∷ 2 ∷ 3 ∷ 4 ∷ []) ∷ (5 ∷ []) ∷ (0 ∷ 1 ∷ 2 ∷ 3 ∷ []) ∷ [])
    ∷ ((5 ∷ []) ∷ (0 ∷ 1 ∷ 2 ∷ 3 ∷ 4 ∷ []) ∷ (5 ∷ []) ∷ [])
    ∷ ([] ∷ [] ∷ [] ∷ []) ∷ ([] ∷ [] ∷ [] ∷ []) ∷ []
unfolding with_zeros in_turn any reaches clash_in meets marked_as
places-valid = refl

-- the table of P9: cells 2 and 3 both send at position 5. Cell 3 is silent at 0 and 1, where cell 1 sends, which it does not clash with
places-wrong :
    bands_marked P1 P9table sends_mark ∷ bands_marked P1 P9table clear_mark ∷ bands_marked P1 P9table wrong_mark ∷ []
    ≡ ((0 ∷ 1 ∷ 2 ∷ 3 ∷ 4 ∷ []) ∷ (5 ∷ []) ∷ (2 ∷ 3 ∷ 4 ∷ 5 ∷ []) ∷ [])
    ∷ ((5 ∷ []) ∷ (0 ∷ 1 ∷ 2 ∷ 3 ∷ 4 ∷ []) ∷ [] ∷ [])
    ∷ ([] ∷ (5 ∷ []) ∷ (5 ∷ []) ∷ []) ∷ []
unfolding with_zeros in_turn any reaches clash_in meets marked_as
places-wrong = refl

-- P1's plan where positions 1 and 3 are blocked: who sends there must not, and cell 2 keeps clear elsewhere alone
places-blocked :
    bands_marked (P1blocked 10) P1plan sends_mark ∷ bands_marked (P1blocked 10) P1plan clear_mark ∷ bands_marked (P1blocked 10) P1plan blocked_mark
    ∷ bands_marked (P1blocked 10) P1plan wrong_mark ∷ []
    ≡ ((0 ∷ 1 ∷ 2 ∷ 3 ∷ 4 ∷ []) ∷ (5 ∷ []) ∷ (0 ∷ 1 ∷ 2 ∷ 3 ∷ []) ∷ [])
    ∷ ((5 ∷ []) ∷ (0 ∷ 2 ∷ 4 ∷ []) ∷ (5 ∷ []) ∷ [])
    ∷ ((1 ∷ 3 ∷ []) ∷ (1 ∷ 3 ∷ []) ∷ (1 ∷ 3 ∷ []) ∷ [])
    ∷ ((1 ∷ 3 ∷ []) ∷ [] ∷ (1 ∷ 3 ∷ []) ∷ []) ∷ []
unfolding with_zeros in_turn any reaches clash_in meets marked_as
places-blocked = refl

-- cells 1 and 2 of P3 send at once: under rule 1 that is right, and under rule 2 it is not, since both reach cell 3
places-ruled :
    bands_marked P3 P3table wrong_mark ∷ bands_marked (P3ruled 2) P3table wrong_mark ∷ bands_marked (P3ruled 2) P3table clear_mark ∷ []
    ≡ ([] ∷ [] ∷ [] ∷ []) ∷ ((0 ∷ []) ∷ (0 ∷ []) ∷ [] ∷ []) ∷ ((1 ∷ []) ∷ (1 ∷ []) ∷ (0 ∷ []) ∷ []) ∷ []
unfolding with_zeros in_turn any reaches reached_by_both clash_in meets marked_as
places-ruled = refl

-- a site under rule 2, by its plan: cells 2 and 5 keep clear for each other since both reach cell 4, and the spare cell 3 clashes with nobody
places-third :
    bands_marked (edge_site 2) edge_table clear_mark ∷ bands_marked (edge_site 2) edge_table wrong_mark ∷ []
    ≡ ((4 ∷ 5 ∷ 6 ∷ []) ∷ (0 ∷ 1 ∷ 2 ∷ 3 ∷ 7 ∷ []) ∷ [] ∷ (3 ∷ 4 ∷ 5 ∷ 6 ∷ 7 ∷ []) ∷ (0 ∷ 1 ∷ 2 ∷ 4 ∷ 5 ∷ 6 ∷ []) ∷ [])
    ∷ ([] ∷ [] ∷ [] ∷ [] ∷ [] ∷ []) ∷ []
unfolding with_zeros in_turn any reaches reached_by_both clash_in meets marked_as
places-third = refl

-- its cell 5 in channel 2: it keeps clear, sends, keeps clear and sends, a slot each, so no two of them are one mark. In channel 1 it keeps clear throughout
runs-apart :
    run_marks (edge_site 2) edge_table sends_mark 4 1 4 ∷ run_marks (edge_site 2) edge_table clear_mark 4 1 4 ∷ run_marks
    (edge_site 2) edge_table clear_mark 4 0 4 ∷ []
    ≡ ((566 ∷ 1270 ∷ 416 ∷ 48 ∷ []) ∷ (1398 ∷ 1270 ∷ 416 ∷ 48 ∷ []) ∷ []) ∷ ((150 ∷ 1270 ∷ 416 ∷ 48 ∷ []) ∷ (982 ∷ 1270 ∷ 416 ∷ 48 ∷ []) ∷ [])
    ∷ ((150 ∷ 1222 ∷ 1664 ∷ 48 ∷ []) ∷ []) ∷ []
unfolding with_zeros first_of in_turn any reaches reached_by_both clash_in slot_wide channel_high meets marked_as run_begins run_past
runs-apart = refl

-- the band of cell 2 of P1, letter by letter
band-said : band_said P1 P1plan 1
    ≡ bytes "<path class=\"clear\" d=\"M150 898h1248v48h-1248z\"/>\n"
    ++ (bytes "<path class=\"edge\" d=\"M150 898h1248v48h-1248z\"/>\n"
    ++ (bytes "<path class=\"clear\" d=\"M150 946h832v48h-832z\"/>\n"
    ++ (bytes "<rect x=\"982\" y=\"946\" width=\"416\" height=\"48\"/>\n"
    ++ (bytes "<path class=\"edge\" d=\"M150 946h1248v48h-1248z\"/>\n"
    ++ (bytes "<path class=\"grid\" d=\"M150 898h1248v96h-1248z\"/>\n" ++ bytes "<text class=\"end\" x=\"140\" y=\"955\">cell 2</text>\n")))))
unfolding with_zeros first_of in_turn any reaches clash_in decimal digits_of spoken slot_wide channel_high mark_lines band_lines meets marked_as run_begins
    run_past
band-said = refl

-- the numbers over the slots of P1; and at 128 slots each eighth has one
numbers-said :
    slot_numbers P1 3 ∷ slot_numbers full_size 16 ∷ []
    ≡ (bytes "<text class=\"tiny\" x=\"358\" y=\"780\">1</text>\n"
    ++ (bytes "<text class=\"tiny\" x=\"774\" y=\"780\">2</text>\n" ++ bytes "<text class=\"tiny\" x=\"1190\" y=\"780\">3</text>\n"))
    ∷ (bytes "<text class=\"tiny\" x=\"247\" y=\"780\">8</text>\n" ++ bytes "<text class=\"tiny\" x=\"351\" y=\"780\">16</text>\n") ∷ []
unfolding with_zeros in_turn decimal digits_of spoken slot_wide band_lines
numbers-said = refl

-- ---- the slot map, read back from the whole text of a picture: how far across and down, how wide and how high, and the width once more

-- P1 and its plan: a mark for each run of slots
marks-heard :
    sends_read (picture_said P1 P1plan 3)
    ≡ (150 ∷ 790 ∷ 1248 ∷ 48 ∷ []) ∷ (150 ∷ 838 ∷ 832 ∷ 48 ∷ []) ∷ (982 ∷ 946 ∷ 416 ∷ 48 ∷ []) ∷ (150 ∷ 1006 ∷ 832 ∷ 48 ∷ [])
    ∷ (150 ∷ 1054 ∷ 832 ∷ 48 ∷ []) ∷ []
unfolding with_zeros first_of sum any most in_turn reaches clash_in most_demand decimal digits_of more scanned starts spoken numbers_in heard_in
    read_in slot_wide channel_high mark_lines band_lines meets marked_as run_begins run_past reach_lines circle_lines cell_step bend_of line_phrase load_lines
    before_bar load_bar over_mark bar_scale picture_head fact_lines picture_tail tall_of
marks-heard = read-in sends_tail (picture_said P1 P1plan 3) ∙ refl

-- P9: position 5 is slot 3, channel 2, in the bands of cells 2 and 3
clash-heard : wrong_read (picture_said P1 P9table 3) ≡ (982 ∷ 946 ∷ 416 ∷ 48 ∷ 416 ∷ []) ∷ (982 ∷ 1054 ∷ 416 ∷ 48 ∷ 416 ∷ []) ∷ []
unfolding with_zeros first_of sum any most in_turn reaches clash_in most_demand decimal digits_of more scanned starts spoken numbers_in heard_in
    read_in slot_wide channel_high mark_lines band_lines meets marked_as run_begins run_past reach_lines circle_lines cell_step bend_of line_phrase load_lines
    before_bar load_bar over_mark bar_scale picture_head fact_lines picture_tail tall_of
clash-heard = read-in wrong_tail (picture_said P1 P9table 3) ∙ refl

-- positions 1 and 3 are channel 2 of slots 1 and 2, where cells 1 and 3 send
blocked-heard :
    wrong_read (picture_said (P1blocked 10) P1plan 3) ≡ (150 ∷ 838 ∷ 832 ∷ 48 ∷ 832 ∷ []) ∷ (150 ∷ 1054 ∷ 832 ∷ 48 ∷ 832 ∷ []) ∷ []
unfolding with_zeros first_of sum any most in_turn reaches clash_in most_demand decimal digits_of more scanned starts spoken numbers_in heard_in
    read_in slot_wide channel_high mark_lines band_lines meets marked_as run_begins run_past reach_lines circle_lines cell_step bend_of line_phrase load_lines
    before_bar load_bar over_mark bar_scale picture_head fact_lines picture_tail tall_of
blocked-heard = read-in wrong_tail (picture_said (P1blocked 10) P1plan 3) ∙ refl

-- ---- the range map

-- arcs for ranges both ways, arrows with their direction, and a clash by a third cell under rule 2 alone
lines-drawn :
    lines_drawn P1 ∷ lines_drawn north_drift ∷ lines_drawn backwards ∷ lines_drawn (edge_site 1) ∷ lines_drawn (edge_site 2) ∷ lines_drawn (P3ruled 2)
    ∷ lines_drawn each_line ∷ []
    ≡ ((arrow_row ∷ 1 ∷ 0 ∷ []) ∷ (arrow_row ∷ 1 ∷ 2 ∷ []) ∷ [])
    ∷ ((arrow_row ∷ 0 ∷ 1 ∷ []) ∷ (arc_row ∷ 1 ∷ 2 ∷ []) ∷ (arrow_row ∷ 2 ∷ 3 ∷ []) ∷ (arrow_row ∷ 3 ∷ 4 ∷ []) ∷ [])
    ∷ ((arrow_row ∷ 2 ∷ 0 ∷ []) ∷ [])
    ∷ ((arrow_row ∷ 0 ∷ 1 ∷ []) ∷ (arrow_row ∷ 1 ∷ 3 ∷ []) ∷ (arrow_row ∷ 4 ∷ 3 ∷ []) ∷ [])
    ∷ ((arrow_row ∷ 0 ∷ 1 ∷ []) ∷ (arrow_row ∷ 1 ∷ 3 ∷ []) ∷ (dotted_row ∷ 1 ∷ 4 ∷ []) ∷ (arrow_row ∷ 4 ∷ 3 ∷ []) ∷ [])
    ∷ ((dotted_row ∷ 0 ∷ 1 ∷ []) ∷ (arrow_row ∷ 0 ∷ 2 ∷ []) ∷ (arrow_row ∷ 1 ∷ 2 ∷ []) ∷ [])
    ∷ ((arc_row ∷ 0 ∷ 1 ∷ []) ∷ (dotted_row ∷ 0 ∷ 2 ∷ []) ∷ (arrow_row ∷ 2 ∷ 1 ∷ []) ∷ []) ∷ []
unfolding with_zeros in_turn any reaches reached_by_both clash_in line_phrase
lines-drawn = refl

-- a line of each kind, letter by letter
lines-said : lines_said each_line 3
    ≡ bytes "<path class=\"arc\" d=\"M386 226Q672 106 959 226\"/>\n"
    ++ (bytes "<path class=\"third\" d=\"M386 226Q959 73 1532 226\"/>\n" ++ bytes "<path class=\"arrow\" d=\"M1532 276Q1245 396 959 276\"/>\n")
unfolding with_zeros in_turn any reaches reached_by_both clash_in decimal digits_of spoken reach_lines cell_step bend_of line_phrase
lines-said = refl

-- the arc and the arrow, read back from the whole text
arc-heard : arcs_read (picture_said each_line P3table 3) ≡ (386 ∷ 672 ∷ 106 ∷ 959 ∷ []) ∷ []
unfolding with_zeros first_of sum any most in_turn reaches reached_by_both clash_in most_demand decimal digits_of more scanned starts spoken numbers_in heard_in
    read_in slot_wide channel_high mark_lines band_lines meets marked_as run_begins run_past reach_lines circle_lines cell_step bend_of line_phrase load_lines
    before_bar load_bar over_mark bar_scale picture_head fact_lines picture_tail tall_of
arc-heard = read-in arc_tail (picture_said each_line P3table 3) ∙ refl

arrow-heard : arrows_read (picture_said each_line P3table 3) ≡ (1532 ∷ 1245 ∷ 396 ∷ 959 ∷ []) ∷ []
unfolding with_zeros first_of sum any most in_turn reaches reached_by_both clash_in most_demand decimal digits_of more scanned starts spoken numbers_in heard_in
    read_in slot_wide channel_high mark_lines band_lines meets marked_as run_begins run_past reach_lines circle_lines cell_step bend_of line_phrase load_lines
    before_bar load_bar over_mark bar_scale picture_head fact_lines picture_tail tall_of
arrow-heard = read-in arrow_tail (picture_said each_line P3table 3) ∙ refl

-- the cells of P3 with a spare cell 3: cell 1 is the heaviest clash, and is ringed
cells-said : nodes_said P3spare 1 3
    ≡ bytes "<circle class=\"cell\" cx=\"386\" cy=\"250\" r=\"21\"/>\n<text class=\"on\" x=\"386\" y=\"259\">1</text>\n"
    ++ (bytes "<circle class=\"heavy\" cx=\"386\" cy=\"250\" r=\"27\"/>\n"
    ++ (bytes "<circle class=\"cell\" cx=\"959\" cy=\"250\" r=\"21\"/>\n<text class=\"on\" x=\"959\" y=\"259\">2</text>\n"
    ++ bytes "<circle class=\"spare\" cx=\"1532\" cy=\"250\" r=\"21\"/>\n<text class=\"off\" x=\"1532\" y=\"259\">3</text>\n"))
unfolding with_zeros in_turn decimal digits_of spoken circle_lines cell_step
cells-said = refl

-- ---- the loads

-- as the load test says: P1 is just full, cell 2 of P2 is over and cell 3 of P3 is, a spare cell never is, and with a position blocked cell 2 of P1 is
bars-over :
    over_cells P1 ∷ over_cells P2 ∷ over_cells P3 ∷ over_cells P3spare ∷ over_cells backwards ∷ over_cells (P1blocked 1) ∷ []
    ≡ [] ∷ (1 ∷ []) ∷ (2 ∷ []) ∷ [] ∷ (2 ∷ []) ∷ (1 ∷ []) ∷ []
unfolding with_zeros sum any in_turn reaches clash_in
bars-over = refl

-- the bars of P2, letter by letter: 5; 2 on top of 5, of 7 in all; 4 on top of 2, since cells 1 and 3 do not clash
bars-said : bars_said P2 3
    ≡ bytes "<path class=\"load\" d=\"M371 620h30v-107h-30z\"/>\n<text class=\"tiny\" x=\"386\" y=\"644\">5</text>\n"
    ++ (bytes "<path class=\"before\" d=\"M944 620h30v-107h-30z\"/>\n<path class=\"load\" d=\"M944 513h30v-43h-30z\"/>\n"
    ++ (bytes "<text class=\"over\" x=\"959\" y=\"462\">!</text>\n<text class=\"tiny\" x=\"959\" y=\"644\">2</text>\n"
    ++ (bytes "<path class=\"before\" d=\"M1517 620h30v-42h-30z\"/>\n<path class=\"load\" d=\"M1517 578h30v-86h-30z\"/>\n"
    ++ bytes "<text class=\"tiny\" x=\"1532\" y=\"644\">4</text>\n")))
unfolding with_zeros sum any most in_turn reaches clash_in most_demand decimal digits_of spoken cell_step load_lines before_bar load_bar over_mark bar_scale
bars-said = refl

-- a spare cell has its number and no bar; and the room, of P2 and of P1 with a position blocked
room-said :
    bar_said north_drift 4 ∷ phrase load_lines (room_line P2) ∷ phrase load_lines (room_line (P1blocked 1)) ∷ []
    ≡ bytes "<text class=\"tiny\" x=\"1648\" y=\"644\">0</text>\n"
    ∷ bytes "<path class=\"room\" d=\"M100 492h1719\"/>\n<text class=\"small end\" x=\"92\" y=\"499\">6</text>\n"
    ∷ bytes "<path class=\"room\" d=\"M100 495h1719\"/>\n<text class=\"small end\" x=\"92\" y=\"502\">5</text>\n" ∷ []
unfolding with_zeros sum any most in_turn reaches clash_in most_demand decimal digits_of spoken cell_step load_lines before_bar load_bar over_mark bar_scale
room-said = refl

-- ---- the whole

-- the rule, and what is blocked; positions 1 and 3 are
facts-said :
    phrase fact_lines (facts_phrase (P1blocked 10)) ∷ phrase fact_lines (facts_phrase (edge_site 2)) ∷ []
    ≡ bytes "<text class=\"end\" x=\"1870\" y=\"90\">rule 1, 2 of 6 channel-slots blocked</text>\n"
    ∷ bytes "<text class=\"end\" x=\"1870\" y=\"90\">rule 2, 0 of 8 channel-slots blocked</text>\n" ∷ []
unfolding with_zeros sum decimal digits_of spoken fact_lines
facts-said = refl

-- how high a picture is, in millimetres: one cell, P1, the north drift, the largest site
heights : tall_of (alone 1) ∷ tall_of P1 ∷ tall_of north_drift ∷ tall_of full_size ∷ [] ≡ 90 ∷ 116 ∷ 138 ∷ 276 ∷ []
unfolding with_zeros channel_high tall_of
heights = refl

-- the last slot of the last channel of the last band of the largest site: where it begins, and how wide and high it is
last-place : across_of full_size 127 ∷ down_of full_size 31 15 ∷ slot_wide full_size ∷ channel_high full_size ∷ [] ≡ 1801 ∷ 2695 ∷ 13 ∷ 3 ∷ []
unfolding with_zeros slot_wide channel_high
last-place = refl
