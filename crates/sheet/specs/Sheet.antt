-- The bytes of a site's sheet, line by line: the format, apart from its reader.
use Rattle.std.specs.Prelude.{ℕ, zero, suc, List, [], ◌++◌}
use Rattle.lines.specs.Format.{header, cell_line, bits_of}
use Rattle.site.specs.Record.{load_at, row_of}
use Rattle.site.specs.declared.Site.{Site}

-- "one line per cell with its number, its load and I marks": of the cell at index k
unfoldable pub line_of : Site → ℕ → List ℕ
line_of s k = cell_line s.cells k (load_at s k) (bits_of (row_of s k))

-- the lines of n cells from index k on
unfoldable pub lines_from : Site → ℕ → ℕ → List ℕ
lines_from s k zero = []
lines_from s k (suc n) = line_of s k ++ lines_from s (suc k) n

-- "a first line .. one line per cell"; "Slots and channels come beside it."
unfoldable pub sheet_bytes : Site → List ℕ
sheet_bytes s = header s.cells ++ lines_from s 0 s.cells
