-- The reasons to refuse a site file, one after the other in document 01's order. "A site file is kinds 1, 2, 3; kind 3 is there even when empty."
-- "In a file, record by record: 8 for the four bytes, 9, 10, 8 for the end, then contents: head 1; each pair 3 then 11 .. Then 12."
-- W8: kind 6 after kind 3, "21, kind 6 with nothing blocked, after 14". W11: kind 5 in place of kind 1, and 24 after 1.
use Rattle.std.specs.Prelude.{ℕ, ◌+◌, ◌*◌, List, ◌++◌}
use Rattle.records.specs.Layout.{record_end}
use Rattle.records.specs.Reasons.{Reason, record_reasons}
use Rattle.records.specs.Head.{cells_of_head, slots_of_head, channels_of_head, after_head}
use Rattle.records.specs.declared.Length.TheVariants.{Exact}
use Rattle.sitehead.specs.Head.{site_head_reasons}
use Rattle.reachpairs.specs.Reasons.{reach_reasons}
use Rattle.blockbits.specs.Reasons.{last_reasons}

-- where kinds 2, 3 and 6 are due: each where the record before it ends
abbrev pub loads_at : List ℕ → ℕ
loads_at s = after_head s

abbrev pub reach_at : List ℕ → ℕ
reach_at s = record_end s (loads_at s)

abbrev pub last_at : List ℕ → ℕ
last_at s = record_end s (reach_at s)

-- FT, as the head states them
abbrev pub positions_of_head : List ℕ → ℕ
positions_of_head s = slots_of_head s * channels_of_head s

-- kind 2, "I loads, two bytes each", length "2 + 2I"
abbrev pub loads_reasons : List ℕ → ℕ → ℕ → List Reason
loads_reasons s at cells = record_reasons s at 2 (Exact (2 + 2 * cells))

unfoldable pub site_reasons : List ℕ → List Reason
site_reasons s =
    site_head_reasons s
    ++ (loads_reasons s (loads_at s) (cells_of_head s)
    ++ (reach_reasons s (reach_at s) (cells_of_head s)
    ++ last_reasons s (last_at s) (positions_of_head s)))
