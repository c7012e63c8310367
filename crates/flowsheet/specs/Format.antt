-- The bytes of a sheet of flows, line by line: the format, apart from its reader.
use Rattle.std.specs.Prelude.{ℕ, zero, suc, List, [], ◌∷◌, ◌++◌}
use Rattle.text.specs.Decimal.{decimal}
use Rattle.lines.specs.Format.{crlf, column}
use Rattle.flowlist.specs.declared.Flow.{Flow}

-- a sheet `cell,burst,period,repeats,value`: its first line
abbrev pub flow_head : List ℕ
flow_head =
    99 ∷ 101 ∷ 108 ∷ 108 ∷ 44 ∷  -- cell,
    98 ∷ 117 ∷ 114 ∷ 115 ∷ 116 ∷ 44 ∷  -- burst,
    112 ∷ 101 ∷ 114 ∷ 105 ∷ 111 ∷ 100 ∷ 44 ∷  -- period,
    114 ∷ 101 ∷ 112 ∷ 101 ∷ 97 ∷ 116 ∷ 115 ∷ 44 ∷  -- repeats,
    118 ∷ 97 ∷ 108 ∷ 117 ∷ 101 ∷ crlf  -- value

-- a line per flow, with the same line form as W1's
unfoldable pub flow_line : Flow → List ℕ
flow_line f = decimal f.cell ++ (column f.burst ++ (column f.period ++ (column f.repeats ++ (column f.value ++ crlf))))

-- the lines of n flows from place k on
unfoldable pub flow_lines : (ℕ → Flow) → ℕ → ℕ → List ℕ
flow_lines f k zero = []
flow_lines f k (suc n) = flow_line (f k) ++ flow_lines f (suc k) n

-- the sheet of the first n flows
unfoldable pub flow_sheet : (ℕ → Flow) → ℕ → List ℕ
flow_sheet f n = flow_head ++ flow_lines f 0 n
