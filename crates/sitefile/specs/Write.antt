-- The file of a site, and what its writer answers and leaves.
use Rattle.std.specs.Prelude.{ℕ, List, ◌++◌, take, Result}
use Rattle.laws.specs.Choice.{pick}
use Rattle.records.specs.Bytes.{two_bytes_each}
use Rattle.records.specs.Layout.{record_of}
use Rattle.records.specs.Write.{written, laid_over}
use Rattle.records.specs.declared.WriteError.{WriteError}
use Rattle.records.specs.declared.WriteError.TheVariants.{Record}
use Rattle.site.specs.Record.{positions, fault_of, is_fine, answer_with}
use Rattle.site.specs.declared.Site.{Site}
use Rattle.sitehead.specs.Head.{site_head}
use Rattle.reachpairs.specs.Pairs.{pair_bytes}
use Rattle.blockbits.specs.Blocks.{block_record}

-- "A site file is kinds 1, 2, 3": the head, "I loads, two bytes each", the pairs. W8: kind 6 after kind 3, absent when nothing is blocked.
-- W11: kind 5 in place of kind 1 for rule 2
unfoldable pub site_bytes : Site → List ℕ
site_bytes s =
    site_head s.rule s.cells s.slots s.channels
    ++ (record_of 2 (two_bytes_each (take s.cells s.loads))
    ++ (record_of 3 (pair_bytes s.reach)
    ++ block_record s.blocked (positions s)))

-- "Writers: 1, 2, 3, .. 13"; W8: 20 after 3; W11: 24 after 1
unfoldable pub site_written : Site → List ℕ → Result ℕ WriteError
site_written s out = answer_with Record (fault_of s) (written (site_bytes s) out)

-- "no other refusal writes"
unfoldable pub site_out : Site → List ℕ → List ℕ
site_out s out = pick (is_fine (fault_of s)) (laid_over (site_bytes s) out) out
