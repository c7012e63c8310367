-- W11's words: a site under another rule, what the call `clash` says of two cells, and the site that a file stated before there were rules.
use Rattle.std.specs.Prelude.{◌≡◌, List, [], ◌∷◌, ℕ}
use Rattle.records.specs.Layout.{body_at}
use Rattle.records.specs.Head.{cells_of_head, slots_of_head, channels_of_head}
use Rattle.site.specs.Record.{site_of}
use Rattle.site.specs.Reach.{clash_answer}
use Rattle.site.specs.Given.{clash_given}
use Rattle.site.specs.declared.Site.{Site}
use Rattle.sitefile.specs.Reasons.{loads_at, reach_at, last_at}
use Rattle.reachpairs.specs.Pairs.{reach_of_body}
use Rattle.blockbits.specs.Reasons.{blocked_or}
use Rattle.sitefile.specs.Read.{loads_of_body}
use Rattle.demanded.specs.Numbers.{done_with}

-- a site with another rule, and nothing else changed
abbrev pub under : ℕ → Site → Site
under rule s = site_of s.cells s.slots s.channels s.loads s.reach s.blocked rule

-- `clash` answers 1: the cells numbered a and b clash
abbrev pub SaysClash : Site → ℕ → ℕ → Type 0
SaysClash s a b = clash_given (clash_answer s a b) ≡ done_with (1 ∷ [])

-- the site of a file whose head is of kind 1: "Rule 1 stays for running sites"
abbrev pub plain_site : List ℕ → Site
plain_site file =
    site_of (cells_of_head file) (slots_of_head file) (channels_of_head file)
    (loads_of_body (body_at file (loads_at file)))
    (reach_of_body (body_at file (reach_at file)))
    (blocked_or file (last_at file))
    1
