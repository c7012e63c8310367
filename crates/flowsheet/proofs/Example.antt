-- A sheet of two flows, byte by byte, and read; and what the reader says of some sheets, computed. Assumes nothing.
use Prim.Native.Nat.{ℕ, zero, suc}
use mathlib.Core.List.{List, [], ◌∷◌, ◌++◌, map}
use mathlib.Core.Path.{◌≡◌, refl}
use Rattle.text.specs.Decimal.{digits_of, decimal}
use Rattle.lines.specs.Match.{starts}
use Rattle.lines.specs.Format.{column}
use Rattle.lines.specs.Content.{more, scanned}
use Rattle.flowlist.specs.List.{zero_flow, no_flows, with_flow}
use Rattle.flowlist.specs.declared.Flow.{Flow}
use Rattle.flowsheet.specs.Format.{flow_line, flow_lines, flow_sheet}
use Rattle.flowsheet.specs.Read.{after, flow_in, flow_fits, flow_ok, flows_done, bad_flows, flows_from, read_flows}

-- cell,burst,period,repeats,value with CR LF, letter by letter
abbrev first_line : List ℕ
first_line =
    99 ∷ 101 ∷ 108 ∷ 108 ∷ 44 ∷ 98 ∷ 117 ∷ 114 ∷ 115 ∷ 116 ∷ 44 ∷ 112 ∷ 101 ∷ 114 ∷ 105 ∷ 111 ∷ 100 ∷ 44 ∷
    114 ∷ 101 ∷ 112 ∷ 101 ∷ 97 ∷ 116 ∷ 115 ∷ 44 ∷ 118 ∷ 97 ∷ 108 ∷ 117 ∷ 101 ∷ 13 ∷ 10 ∷ []

abbrev flow₁ : Flow
flow₁ = record { cell = 1; burst = 3; period = 8; repeats = 1; value = 10 }

abbrev flow₂ : Flow
flow₂ = record { cell = 2; burst = 4; period = 8; repeats = 2; value = 30 }

abbrev two : ℕ → Flow
two zero = flow₁
two (suc k) = flow₂

-- 1,3,8,1,10 and 2,4,8,2,30, each with CR LF
abbrev line₁ : List ℕ
line₁ = 49 ∷ 44 ∷ 51 ∷ 44 ∷ 56 ∷ 44 ∷ 49 ∷ 44 ∷ 49 ∷ 48 ∷ 13 ∷ 10 ∷ []

abbrev line₂ : List ℕ
line₂ = 50 ∷ 44 ∷ 52 ∷ 44 ∷ 56 ∷ 44 ∷ 50 ∷ 44 ∷ 51 ∷ 48 ∷ 13 ∷ 10 ∷ []

pub two-written : flow_sheet two 2 ≡ first_line ++ (line₁ ++ line₂)
unfolding flow_sheet flow_lines flow_line column decimal digits_of
two-written = refl

abbrev most : Flow
most = record { cell = 65535; burst = 3; period = 8; repeats = 1; value = 65535 }

pub flows-read :
    map read_flows
    (
    -- the first line alone is good: no flows
    first_line
    -- nothing at all has no first line
    ∷ []
    -- the first flow's line without its line feed is line 2
    ∷ (first_line ++ (49 ∷ 44 ∷ 51 ∷ 44 ∷ 56 ∷ 44 ∷ 49 ∷ 44 ∷ 49 ∷ 48 ∷ 13 ∷ []))
    -- a space after a comma is malformed, in line 3 here
    ∷ (first_line ++ (line₁ ++ (50 ∷ 44 ∷ 32 ∷ 52 ∷ 44 ∷ 56 ∷ 44 ∷ 50 ∷ 44 ∷ 51 ∷ 48 ∷ 13 ∷ 10 ∷ [])))
    -- 0,0,0,0,0: `0` alone is a number. That no cell has the number 0, and that there is no such flow, is not the sheet's question
    ∷ (first_line ++ (48 ∷ 44 ∷ 48 ∷ 44 ∷ 48 ∷ 44 ∷ 48 ∷ 44 ∷ 48 ∷ 13 ∷ 10 ∷ []))
    -- 65535,3,8,1,65535: each number is 0 to 65,535; and 1,3,8,1,65536
    ∷ (first_line ++ (54 ∷ 53 ∷ 53 ∷ 51 ∷ 53 ∷ 44 ∷ 51 ∷ 44 ∷ 56 ∷ 44 ∷ 49 ∷ 44 ∷ 54 ∷ 53 ∷ 53 ∷ 51 ∷ 53 ∷ 13 ∷ 10 ∷ []))
    ∷ (first_line ++ (49 ∷ 44 ∷ 51 ∷ 44 ∷ 56 ∷ 44 ∷ 49 ∷ 44 ∷ 54 ∷ 53 ∷ 53 ∷ 51 ∷ 54 ∷ 13 ∷ 10 ∷ []))
    -- 1,3,8,1,00 and 01,3,8,1,10: "no leading zeros"
    ∷ (first_line ++ (49 ∷ 44 ∷ 51 ∷ 44 ∷ 56 ∷ 44 ∷ 49 ∷ 44 ∷ 48 ∷ 48 ∷ 13 ∷ 10 ∷ []))
    ∷ (first_line ++ (48 ∷ 49 ∷ 44 ∷ 51 ∷ 44 ∷ 56 ∷ 44 ∷ 49 ∷ 44 ∷ 49 ∷ 48 ∷ 13 ∷ 10 ∷ []))
    -- 1,3,8,1, with nothing in the last field
    ∷ (first_line ++ (49 ∷ 44 ∷ 51 ∷ 44 ∷ 56 ∷ 44 ∷ 49 ∷ 44 ∷ 13 ∷ 10 ∷ []))
    -- a line that LF alone ends; one that LF CR ends
    ∷ (first_line ++ (49 ∷ 44 ∷ 51 ∷ 44 ∷ 56 ∷ 44 ∷ 49 ∷ 44 ∷ 49 ∷ 48 ∷ 10 ∷ []))
    ∷ (first_line ++ (49 ∷ 44 ∷ 51 ∷ 44 ∷ 56 ∷ 44 ∷ 49 ∷ 44 ∷ 49 ∷ 48 ∷ 10 ∷ 13 ∷ []))
    -- semicolons
    ∷ (first_line ++ (49 ∷ 59 ∷ 51 ∷ 59 ∷ 56 ∷ 59 ∷ 49 ∷ 59 ∷ 49 ∷ 48 ∷ 13 ∷ 10 ∷ []))
    -- an empty line after a good one
    ∷ (first_line ++ (line₁ ++ (13 ∷ 10 ∷ [])))
    ∷ [])
    ≡ flows_done no_flows
    ∷ bad_flows 1
    ∷ bad_flows 2
    ∷ bad_flows 3
    ∷ flows_done (with_flow no_flows zero_flow)
    ∷ flows_done (with_flow no_flows most)
    ∷ bad_flows 2
    ∷ bad_flows 2
    ∷ bad_flows 2
    ∷ bad_flows 2
    ∷ bad_flows 2
    ∷ bad_flows 2
    ∷ bad_flows 2
    ∷ bad_flows 3
    ∷ []
unfolding read_flows starts flows_from flow_ok flow_fits flow_in after scanned more flow_line column decimal digits_of no_flows
flows-read = refl
