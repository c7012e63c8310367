-- What `renumber` gives for any site. W10: "find a renumbering of all its cells, idle ones too, that puts it in W9's class whatever the loads, or say that
-- none exists, exactly when none does." "Return old and new numbers and the renumbered site."
use Rattle.std.specs.Prelude.{List, ℕ, Result, Ok, Err}
use Rattle.std.specs.Option.{ok_or}
use Rattle.site.specs.Record.{site_of, fault_of, answer_with}
use Rattle.site.specs.Reach.{clash_of}
use Rattle.site.specs.declared.Site.{Site}
use Rattle.renumbering.specs.Numbering.{Numbering, blank, numbering}
use Rattle.numberrows.specs.Numbers.{numbers_of, moved_by, moved_rows}
use Rattle.numberrows.specs.declared.Numbers.{Numbers}
use Rattle.numbering.specs.declared.Renumbered.{Renumbered}
use Rattle.numbering.specs.declared.RenumberError.{RenumberError}
use Rattle.numbering.specs.declared.RenumberError.TheVariants.{NoNumbering, Record}

-- the numbering of a site's cells, by who clashes
unfoldable pub numbering_of : Site → Numbering
numbering_of s = numbering 32 (clash_of s) s.cells

-- "Refusals: 23, no such numbering, after 20"
unfoldable pub site_numbers : Site → Result Numbers RenumberError
site_numbers s = answer_with Record (fault_of s) (ok_or (numbers_of (numbering_of s)) NoNumbering)

-- the site in new numbers, where `old` has the old number of each new one: loads and reach go with the cells, and everything else stays
unfoldable pub moved_site : Site → List ℕ → Site
moved_site s old =
    site_of s.cells s.slots s.channels (moved_by old s.cells s.loads) (moved_rows old s.cells s.reach) s.blocked s.rule

-- "any refusal gives the site as given and numbers all 0"
abbrev pub as_given : Site → RenumberError → Renumbered
as_given s refused = record { site = s; new = blank 32; old = blank 32; answer = Err refused }

abbrev pub renumbered_by : Site → Result Numbers RenumberError → Renumbered
renumbered_by s (Ok n) = record { site = moved_site s n.old; new = n.new; old = n.old; answer = Ok tt }
renumbered_by s (Err refused) = as_given s refused

unfoldable pub renumber_of : Site → Renumbered
renumber_of s = renumbered_by s (site_numbers s)
