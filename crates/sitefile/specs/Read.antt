-- The site file, read: the answer is the first reason to refuse it that applies, and where none does, the site is the one that the records' bodies state.
use Rattle.std.specs.Prelude.{ℕ, List, Result, Ok, Err}
use Rattle.std.proofs.lemmas.List.Edits.{sets}
use Rattle.records.specs.Bytes.{numbers_in}
use Rattle.records.specs.Layout.{body_at}
use Rattle.records.specs.Reasons.{first_reason}
use Rattle.records.specs.Head.{cells_of_head, slots_of_head, channels_of_head}
use Rattle.records.specs.declared.Refusal.{Refusal}
use Rattle.site.specs.Record.{site_of, zero_site}
use Rattle.site.specs.declared.Site.{Site}
use Rattle.sitehead.specs.Head.{rule_of_head}
use Rattle.reachpairs.specs.Pairs.{all_zero, reach_of_body}
use Rattle.blockbits.specs.Reasons.{blocked_or}
use Rattle.sitefile.specs.Reasons.{loads_at, reach_at, last_at, site_reasons}
use Rattle.sitefile.specs.declared.SiteRead.{SiteRead}

-- the loads that a kind 2 body states
abbrev pub loads_of_body : List ℕ → List ℕ
loads_of_body body = sets all_zero 0 (numbers_in body)

unfoldable pub site_of_file : List ℕ → Site
site_of_file s =
    site_of (cells_of_head s) (slots_of_head s) (channels_of_head s)
    (loads_of_body (body_at s (loads_at s)))
    (reach_of_body (body_at s (reach_at s)))
    (blocked_or s (last_at s))
    (rule_of_head s)

unfoldable pub site_answer : List ℕ → Result Unit Refusal
site_answer s = first_reason (site_reasons s)

-- "A refused site read gives a site of zeros."
abbrev pub site_done : Site → SiteRead
site_done s = record { site = s; answer = Ok tt }

unfoldable pub refused_site : Result Unit Refusal → SiteRead
refused_site answer = record { site = zero_site; answer = answer }

unfoldable pub site_read_of : Site → Result Unit Refusal → SiteRead
site_read_of s (Ok u) = site_done s
site_read_of s (Err r) = refused_site (Err r)

unfoldable pub read_site : List ℕ → SiteRead
read_site s = site_read_of (site_of_file s) (site_answer s)
