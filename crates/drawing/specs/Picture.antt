-- The whole picture: "above, the range map", "below, the slot map". Its head and its end are rows of text too, which follow one another; they are the style,
-- and what the marks mean.
use Rattle.std.specs.Prelude.{ℕ, ◌+◌, ◌-◌, ◌*◌, ◌/◌, List, [], ◌∷◌, ◌++◌}
use Prim.Native.String.{String}
use Rattle.faults.specs.Faults.{in_turn}
use Rattle.theory.specs.Net.{room}
use Rattle.site.specs.Record.{positions}
use Rattle.site.specs.Reach.{net_of}
use Rattle.site.specs.declared.Site.{Site}
use Rattle.phrases.specs.Phrases.{phrase}
use Rattle.phrases.specs.declared.Phrase.{Phrase}
use Rattle.phrases.specs.declared.Phrase.TheVariants.{Row}
use Rattle.drawing.specs.Places.{map_top, slot_wide, band_step}
use Rattle.drawing.specs.Slots.{every_slot, slot_numbers, bands_said}
use Rattle.drawing.specs.Range.{cell_step, lines_said, nodes_said}
use Rattle.drawing.specs.Loads.{load_lines, bars_said, room_line}

unfoldable pub picture_head : List String
picture_head =
    "<svg xmlns=\"http://www.w3.org/2000/svg\" class=\"dugg\" width=\"190mm\" height=\"@1mm\" viewBox=\"0 0 1900 "
    ∷ "@10\" "
    ∷ "font-family=\"sans-serif\" font-size=\"24\">\n<title>Duggfrask</title>\n<style>\n"
    ∷ ".dugg .paper{fill:#fff}\n.dugg .tunnel{stroke:#bbb;stroke-width:8}\n.dugg text{fill:#000}\n"
    ∷ ".dugg .arc,.dugg .arrow,.dugg .third{fill:none;stroke:#000;stroke-width:4}\n"
    ∷ ".dugg .arrow{stroke-dasharray:14 6;marker-end:url(#dugg-tip)}\n"
    ∷ ".dugg .third{stroke-width:5;stroke-linecap:round;stroke-dasharray:1 11}\n"
    ∷ ".dugg .cell,.dugg rect,.dugg .sends{fill:#000}\n.dugg .heavy{fill:none;stroke:#000;stroke-width:4}\n"
    ∷ ".dugg .spare{fill:#fff;stroke:#000;stroke-width:3;stroke-dasharray:5 3}\n"
    ∷ ".dugg .load{fill:#000;stroke:#000;stroke-width:2}\n.dugg .over{font-size:36px;font-weight:bold}\n"
    ∷ ".dugg .on{fill:#fff}\n.dugg .on,.dugg .off,.dugg .tiny,.dugg .over{text-anchor:middle}\n"
    ∷ ".dugg .end{text-anchor:end}\n"
    ∷ ".dugg .title{font-size:30px;font-weight:bold}\n.dugg .tiny,.dugg .small{font-size:19px}\n"
    ∷ ".dugg .before{fill:#ddd;stroke:#000;stroke-width:2}\n.dugg .clear{fill:#ddd}\n"
    ∷ ".dugg .blocked{fill:#999}\n.dugg .wrong{fill:url(#dugg-bold)}\n"
    ∷ ".dugg .room{fill:none;stroke:#000;stroke-width:4;stroke-dasharray:4 8}\n"
    ∷ ".dugg .edge{fill:none;stroke:#999;stroke-width:1}\n.dugg rect{shape-rendering:crispEdges}\n"
    ∷ ".dugg .grid{fill:url(#dugg-grid);stroke:#000;stroke-width:2}\n"
    ∷ ".dugg .box{fill:none;stroke:#000;stroke-width:2}\n"
    ∷ "</style>\n<defs>\n<pattern id=\"dugg-bold\" width=\"16\" height=\"16\" patternUnits=\"userSpaceOnUse\">\n"
    ∷ "<path d=\"M0 0h16v16h-16z\" fill=\"#d50\"/>\n"
    ∷ "<path d=\"M0 0l16 16M0 16l16 -16\" stroke=\"#fff\" stroke-width=\"5\"/></pattern>\n"
    ∷ "<pattern id=\"dugg-grid\" x=\"150\" width=\"@2\" height=\"9\" patternUnits=\"userSpaceOnUse\">\n"
    ∷ "<path d=\"M0 0v9\" stroke=\"#999\" stroke-width=\"1\"/></pattern>\n"
    ∷ "<marker id=\"dugg-tip\" viewBox=\"0 0 10 10\" refX=\"9\" refY=\"5\" markerWidth=\"5\" markerHeight=\"5\" "
    ∷ "orient=\"auto\"><path d=\"M0 0L10 5L0 10z\"/></marker>\n</defs>\n"
    ∷ "<path class=\"paper\" d=\"M0 0h1900v@10h-1900z\"/>\n"
    ∷ "<text class=\"title\" x=\"30\" y=\"90\">Range map: @4 cell@d</text>\n"
    ∷ "<path class=\"tunnel\" d=\"M100 250h@3\"/>\n"
    ∷ "<path class=\"box\" d=\"M100 620h@3\"/>\n"
    ∷ "<text class=\"small end\" x=\"92\" y=\"644\">load</text>\n"
    ∷ "<path class=\"arc key\" d=\"M30 686Q60 646 90 686\"/>\n"
    ∷ "<text class=\"small\" x=\"100\" y=\"684\">reach each other</text>\n"
    ∷ "<path class=\"arrow key\" d=\"M270 670Q300 710 330 670\"/>\n"
    ∷ "<text class=\"small\" x=\"340\" y=\"684\">reaches one way</text>\n"
    ∷ "<path class=\"third key\" d=\"M510 686Q540 646 570 686\"/>\n"
    ∷ "<text class=\"small\" x=\"580\" y=\"684\">clash by a third cell</text>\n"
    ∷ "<circle class=\"spare\" cx=\"792\" cy=\"678\" r=\"12\"/>\n"
    ∷ "<text class=\"small\" x=\"812\" y=\"684\">no load</text>\n"
    ∷ "<circle class=\"cell\" cx=\"912\" cy=\"678\" r=\"9\"/>\n<circle class=\"heavy\" cx=\"912\" cy=\"678\" r=\"14\"/>\n"
    ∷ "<text class=\"small\" x=\"934\" y=\"684\">heaviest clash</text>\n"
    ∷ "<path class=\"load\" d=\"M1090 668h24v20h-24z\"/>\n<text class=\"small\" x=\"1124\" y=\"684\">load</text>\n"
    ∷ "<path class=\"before\" d=\"M1190 668h24v20h-24z\"/>\n"
    ∷ "<text class=\"small\" x=\"1224\" y=\"684\">earlier cells that clash with it</text>\n"
    ∷ "<path class=\"room\" d=\"M1518 678h44\"/>\n<text class=\"small\" x=\"1572\" y=\"684\">room</text>\n"
    ∷ "<text class=\"over\" x=\"1655\" y=\"690\">!</text>\n"
    ∷ "<text class=\"small\" x=\"1670\" y=\"684\">more than the room</text>\n"
    ∷ []

-- how the site is: its rule, how many channel-slots are blocked, and how many there are
unfoldable pub fact_lines : List String
fact_lines =
    "<text class=\"end\" x=\"1870\" y=\"90\">rule @1, @2 of @3 channel-slots blocked</text>\n"
    ∷ []

unfoldable pub picture_tail : List String
picture_tail =
    "<text class=\"title\" x=\"30\" y=\"745\">Slot map: @1 slot@a across, @2 channel@b down</text>\n"
    ∷ "<text class=\"small end\" x=\"140\" y=\"780\">slot</text>\n"
    ∷ "<path class=\"sends\" d=\"M150 @3h40v24h-40z\"/>\n<text class=\"small\" x=\"200\" y=\"@4\">sends</text>\n"
    ∷ "<path class=\"clear\" d=\"M300 @3h40v24h-40z\"/>\n<path class=\"box\" d=\"M300 @3h40v24h-40z\"/>\n"
    ∷ "<text class=\"small\" x=\"350\" y=\"@4\">keeps clear</text>\n"
    ∷ "<path class=\"blocked\" d=\"M500 @3h40v24h-40z\"/>\n<path class=\"box\" d=\"M500 @3h40v24h-40z\"/>\n"
    ∷ "<text class=\"small\" x=\"550\" y=\"@4\">blocked</text>\n"
    ∷ "<path class=\"box\" d=\"M660 @3h40v24h-40z\"/>\n<text class=\"small\" x=\"710\" y=\"@4\">silent</text>\n"
    ∷ "<path class=\"wrong key\" d=\"M810 @3h40v24h-40z\"/>\n"
    ∷ "<text class=\"small\" x=\"860\" y=\"@4\">sends, and clashes or is blocked</text>\n"
    ∷ "</svg>\n"
    ∷ []

-- how many they are
abbrev pub head_rows : ℕ
head_rows = 47

abbrev pub tail_rows : ℕ
tail_rows = 11

module _ (s : Site) where
  -- how high the picture is, in millimetres
  unfoldable pub tall_of : ℕ
  tall_of = (map_top + s.cells * band_step s + 50) / 10

  -- how far down the marks are explained
  abbrev pub key_down : ℕ
  key_down = tall_of * 10 - 36

  -- a line after so many units, across a band
  abbrev pub grid_of : ℕ
  grid_of = every_slot s * slot_wide s

  abbrev pub picture_head_row : ℕ → Phrase
  picture_head_row k = Row k tall_of grid_of (s.cells * cell_step s) s.cells

  abbrev pub picture_tail_row : ℕ → Phrase
  picture_tail_row k = Row k s.slots s.channels key_down (key_down + 19)

  -- the first n rows
  abbrev pub head_said : ℕ → List ℕ
  head_said n = in_turn (λ k. phrase picture_head (picture_head_row k)) n

  abbrev pub tail_said : ℕ → List ℕ
  tail_said n = in_turn (λ k. phrase picture_tail (picture_tail_row k)) n

-- the site's rule, what is blocked of it, and all of it
abbrev pub facts_phrase : Site → Phrase
facts_phrase s = Row 0 s.rule (positions s - room (net_of s)) (positions s) 0

-- all of it, as the desk writes it: of a site, a table, and the word of the heaviest clash
abbrev pub picture_said : Site → List ℕ → ℕ → List ℕ
picture_said s t heavy =
    head_said s head_rows
    ++ (phrase fact_lines (facts_phrase s)
    ++ (lines_said s s.cells
    ++ (nodes_said s heavy s.cells
    ++ (bars_said s s.cells
    ++ (phrase load_lines (room_line s) ++ (slot_numbers s s.slots ++ (bands_said s t s.cells ++ tail_said s tail_rows)))))))
