-- The lines of the listing's head, as document 01 has them: one for the site, and one for each answer.
use Rattle.std.specs.Prelude.{ℕ, List, ◌++◌, Result, Ok, Err}
use Rattle.site.specs.declared.Site.{Site}
use Rattle.site.specs.declared.Fault.{Fault}
use Rattle.judges.specs.Judges.{load_answer, chain_answer}
use Rattle.judges.specs.declared.LoadVerdict.{LoadVerdict}
use Rattle.judges.specs.declared.LoadVerdict.TheVariants as load
use Rattle.judges.specs.declared.ChainVerdict.{ChainVerdict}
use Rattle.judges.specs.declared.ChainVerdict.TheVariants as chain
use Rattle.planner.specs.declared.PlanError.{PlanError}
use Rattle.planner.specs.declared.PlanError.TheVariants as plan
use Rattle.phrases.specs.Phrases.{phrase}
use Rattle.phrases.specs.declared.Phrase.{Phrase}
use Rattle.phrases.specs.declared.Phrase.TheVariants.{Silent, Row}
use Rattle.say_listing.specs.Lines.{listing_lines, site_row, chain_yes_row, chain_no_row, load_holds_row}
use Rattle.say_listing.specs.Lines.{load_over_row, plan_done_row, plan_short_row}

-- "Fields: cells, slots, channels"
abbrev pub site_line : Site → Phrase
site_line s = Row site_row s.cells s.slots s.channels 0

-- "chain yes", "Otherwise chain no a b c". A site that was read has no fault, so that here and below the cases of a refused record never come.
abbrev pub chain_line : Result ChainVerdict Fault → Phrase
chain_line (Ok chain.Chained) = Row chain_yes_row 0 0 0 0
chain_line (Ok (chain.Broken a b c)) = Row chain_no_row a b c 0
chain_line (Err f) = Silent

-- "load holds", "Otherwise .. load over cell excess"
abbrev pub load_line : Result LoadVerdict Fault → Phrase
load_line (Ok load.Holds) = Row load_holds_row 0 0 0 0
load_line (Ok (load.Over cell excess)) = Row load_over_row cell excess 0 0
load_line (Err f) = Silent

-- "plan done", "Otherwise .. plan 5 cell short"
abbrev pub plan_line : Result Unit PlanError → Phrase
plan_line (Ok u) = Row plan_done_row 0 0 0 0
plan_line (Err (plan.NoRoom cell short)) = Row plan_short_row cell short 0 0
plan_line (Err plan.TableShort) = Silent
plan_line (Err (plan.Record f)) = Silent

-- "Fields: cells, slots, channels; verdicts", with the planner's answer
abbrev pub head_with : Site → Result Unit PlanError → List ℕ
head_with s answer =
    phrase listing_lines (site_line s)
    ++ (phrase listing_lines (chain_line (chain_answer s))
    ++ (phrase listing_lines (load_line (load_answer s))
    ++ phrase listing_lines (plan_line answer)))

-- how many cell lines there are
abbrev pub row_count : Result Unit PlanError → ℕ → ℕ
row_count (Ok u) cells = cells
row_count (Err e) cells = 0
