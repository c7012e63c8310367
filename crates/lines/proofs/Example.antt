-- Lines byte for byte, and which lines are of the format, computed: the format from a second side, letter by letter. Assumes nothing.
use mathlib.Core.Bool.{true, false}
use mathlib.Core.List.{[], ◌∷◌, map}
use mathlib.Core.Path.{◌≡◌, refl}
use Rattle.text.specs.Decimal.{digits_of, decimal}
use Rattle.lines.specs.Match.{starts}
use Rattle.lines.specs.Format.{column, columns, header, bits_of, marks, label, cell_line}
use Rattle.lines.specs.Content.{more, scanned, load_of_line, marks_of_line, mark_of_line, line_in, line_ok, columns_in, cells_of_line, head_ok}

-- the first lines of 3 and of 10 cells; cell 2 with load 1 reaches cells 1 and 3; cell 1 with load 65,535 reaches cell 3
pub lines-written :
    header 3 ∷ header 10 ∷ cell_line 3 1 1 (bits_of 5) ∷ cell_line 3 0 65535 (bits_of 4) ∷ []
    -- cell,load,1,2,3
    ≡ (99 ∷ 101 ∷ 108 ∷ 108 ∷ 44 ∷ 108 ∷ 111 ∷ 97 ∷ 100 ∷ 44 ∷ 49 ∷ 44 ∷ 50 ∷ 44 ∷ 51 ∷ 13 ∷ 10 ∷ [])
    -- cell,load,1,2,3,4,5,6,7,8,9,10
    ∷ (99 ∷ 101 ∷ 108 ∷ 108 ∷ 44 ∷ 108 ∷ 111 ∷ 97 ∷ 100 ∷ 44 ∷ 49 ∷ 44 ∷ 50 ∷ 44 ∷ 51 ∷ 44 ∷ 52 ∷ 44 ∷ 53 ∷ 44 ∷
    54 ∷ 44 ∷ 55 ∷ 44 ∷ 56 ∷ 44 ∷ 57 ∷ 44 ∷ 49 ∷ 48 ∷ 13 ∷ 10 ∷ [])
    -- 2,1,1,0,1 and 1,65535,0,0,1
    ∷ (50 ∷ 44 ∷ 49 ∷ 44 ∷ 49 ∷ 44 ∷ 48 ∷ 44 ∷ 49 ∷ 13 ∷ 10 ∷ [])
    ∷ (49 ∷ 44 ∷ 54 ∷ 53 ∷ 53 ∷ 51 ∷ 53 ∷ 44 ∷ 48 ∷ 44 ∷ 48 ∷ 44 ∷ 49 ∷ 13 ∷ 10 ∷ [])
    ∷ []
unfolding header columns column cell_line label bits_of marks decimal digits_of
lines-written = refl

-- first lines: cell,load,1; with no cells; with a cell 0; with semicolons; with spaces; with LF alone; with LF CR
pub heads-judged :
    map head_ok
    ((99 ∷ 101 ∷ 108 ∷ 108 ∷ 44 ∷ 108 ∷ 111 ∷ 97 ∷ 100 ∷ 44 ∷ 49 ∷ 13 ∷ 10 ∷ [])
    ∷ (99 ∷ 101 ∷ 108 ∷ 108 ∷ 44 ∷ 108 ∷ 111 ∷ 97 ∷ 100 ∷ 13 ∷ 10 ∷ [])
    ∷ (99 ∷ 101 ∷ 108 ∷ 108 ∷ 44 ∷ 108 ∷ 111 ∷ 97 ∷ 100 ∷ 44 ∷ 48 ∷ 13 ∷ 10 ∷ [])
    ∷ (99 ∷ 101 ∷ 108 ∷ 108 ∷ 59 ∷ 108 ∷ 111 ∷ 97 ∷ 100 ∷ 59 ∷ 49 ∷ 13 ∷ 10 ∷ [])
    ∷ (99 ∷ 101 ∷ 108 ∷ 108 ∷ 44 ∷ 32 ∷ 108 ∷ 111 ∷ 97 ∷ 100 ∷ 44 ∷ 32 ∷ 49 ∷ 13 ∷ 10 ∷ [])
    ∷ (99 ∷ 101 ∷ 108 ∷ 108 ∷ 44 ∷ 108 ∷ 111 ∷ 97 ∷ 100 ∷ 44 ∷ 49 ∷ 10 ∷ [])
    ∷ (99 ∷ 101 ∷ 108 ∷ 108 ∷ 44 ∷ 108 ∷ 111 ∷ 97 ∷ 100 ∷ 44 ∷ 49 ∷ 10 ∷ 13 ∷ [])
    ∷ [])
    ≡ true ∷ false ∷ false ∷ false ∷ false ∷ false ∷ false ∷ []
unfolding head_ok cells_of_line columns_in starts header columns column decimal digits_of
heads-judged = refl

-- lines of one cell: 1,5,0 and 1,0,1 and 1,65535,0; a load of 65,536; leading zeros, twice; cell 0; semicolons; a mark 2; no load; LF alone; LF CR
pub lines-judged :
    map (line_ok 1 0)
    ((49 ∷ 44 ∷ 53 ∷ 44 ∷ 48 ∷ 13 ∷ 10 ∷ [])
    ∷ (49 ∷ 44 ∷ 48 ∷ 44 ∷ 49 ∷ 13 ∷ 10 ∷ [])
    ∷ (49 ∷ 44 ∷ 54 ∷ 53 ∷ 53 ∷ 51 ∷ 53 ∷ 44 ∷ 48 ∷ 13 ∷ 10 ∷ [])
    ∷ (49 ∷ 44 ∷ 54 ∷ 53 ∷ 53 ∷ 51 ∷ 54 ∷ 44 ∷ 48 ∷ 13 ∷ 10 ∷ [])
    ∷ (49 ∷ 44 ∷ 48 ∷ 53 ∷ 44 ∷ 48 ∷ 13 ∷ 10 ∷ [])
    ∷ (48 ∷ 49 ∷ 44 ∷ 53 ∷ 44 ∷ 48 ∷ 13 ∷ 10 ∷ [])
    ∷ (48 ∷ 44 ∷ 53 ∷ 44 ∷ 48 ∷ 13 ∷ 10 ∷ [])
    ∷ (49 ∷ 59 ∷ 53 ∷ 59 ∷ 48 ∷ 13 ∷ 10 ∷ [])
    ∷ (49 ∷ 44 ∷ 53 ∷ 44 ∷ 50 ∷ 13 ∷ 10 ∷ [])
    ∷ (49 ∷ 44 ∷ 44 ∷ 48 ∷ 13 ∷ 10 ∷ [])
    ∷ (49 ∷ 44 ∷ 53 ∷ 44 ∷ 48 ∷ 10 ∷ [])
    ∷ (49 ∷ 44 ∷ 53 ∷ 44 ∷ 48 ∷ 10 ∷ 13 ∷ [])
    ∷ [])
    ≡ true ∷ true ∷ true ∷ false ∷ false ∷ false ∷ false ∷ false ∷ false ∷ false ∷ false ∷ false ∷ []
unfolding line_ok load_of_line scanned more label line_in cell_line marks_of_line mark_of_line marks starts decimal digits_of
lines-judged = refl
