-- The site file as it was before kind 6 and kind 5: its bytes, the reasons to refuse it, and the site that it states; and as it was before kind 5 alone.
use Rattle.std.specs.Prelude.{ℕ, List, [], ◌∷◌, ◌++◌, take}
use Rattle.positions.specs.Blocked.{empty_set}
use Rattle.records.specs.Bytes.{two_bytes_each}
use Rattle.records.specs.Layout.{record_of, body_at}
use Rattle.records.specs.Reasons.{Reason, end_reason}
use Rattle.records.specs.Head.{head_record, cells_of_head, slots_of_head, channels_of_head, head_reasons}
use Rattle.site.specs.Record.{positions, site_of}
use Rattle.site.specs.declared.Site.{Site}
use Rattle.reachpairs.specs.Reasons.{reach_reasons}
use Rattle.reachpairs.specs.Pairs.{reach_of_body, pair_bytes}
use Rattle.blockbits.specs.Blocks.{block_record}
use Rattle.blockbits.specs.Reasons.{last_reasons}
use Rattle.sitefile.specs.Reasons.{loads_at, reach_at, last_at, positions_of_head, loads_reasons}
use Rattle.sitefile.specs.Read.{loads_of_body}

-- "A site file is kinds 1, 2, 3"
abbrev pub three_kinds : Site → List ℕ
three_kinds s =
    head_record s.cells s.slots s.channels
    ++ (record_of 2 (two_bytes_each (take s.cells s.loads))
    ++ record_of 3 (pair_bytes s.reach))

-- and kind 6 after kind 3 where something is blocked: what a file was before W11
abbrev pub four_kinds : Site → List ℕ
four_kinds s =
    head_record s.cells s.slots s.channels
    ++ (record_of 2 (two_bytes_each (take s.cells s.loads))
    ++ (record_of 3 (pair_bytes s.reach)
    ++ block_record s.blocked (positions s)))

abbrev pub four_reasons : List ℕ → List Reason
four_reasons s =
    head_reasons s
    ++ (loads_reasons s (loads_at s) (cells_of_head s)
    ++ (reach_reasons s (reach_at s) (cells_of_head s)
    ++ last_reasons s (last_at s) (positions_of_head s)))

-- "Then 12": after kind 3
abbrev pub three_reasons : List ℕ → List Reason
three_reasons s =
    head_reasons s
    ++ (loads_reasons s (loads_at s) (cells_of_head s)
    ++ (reach_reasons s (reach_at s) (cells_of_head s)
    ++ (end_reason s (last_at s) ∷ [])))

abbrev pub three_site : List ℕ → Site
three_site s =
    site_of (cells_of_head s) (slots_of_head s) (channels_of_head s) (loads_of_body (body_at s (loads_at s)))
    (reach_of_body (body_at s (reach_at s))) empty_set 1
