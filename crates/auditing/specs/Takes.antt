-- "how many channel-slots it takes": what it needs, the heaviest clash, and what is enough. On a nested site, and on one that has a numbering, the two are one
-- number. On any other so many are enough as the load test asks for, and no more than the site has where a plan was found.
use Rattle.std.specs.Prelude.{ℕ, Bool, ltb, Result, Ok, Err, is_ok}
use Rattle.laws.specs.Choice.{pick}
use Rattle.positions.specs.Blocked.{open_in}
use Rattle.site.specs.Record.{positions, fault_of, is_fine}
use Rattle.site.specs.declared.Site.{Site}
use Rattle.site.specs.declared.Fault.{Fault}
use Rattle.judges.specs.Judges.{least_answer}
use Rattle.heaviest.specs.Sets.{heaviest_of}
use Rattle.finder.specs.declared.Way.{Way}
use Rattle.finder.specs.declared.FindError.{FindError}
use Rattle.why.specs.Said.{least_number}
use Rattle.auditing.specs.declared.Form.{Form}
use Rattle.auditing.specs.declared.Form.TheVariants.{Chained, Nested, Renumbered, Neither}
use Rattle.auditing.specs.declared.Extent.{Extent}

-- the open positions; none where something is wrong with the record
unfoldable pub open_here : Site → ℕ
open_here s = pick (is_fine (fault_of s)) (open_in s.blocked (positions s)) 0

abbrev pub load_of_clash : Result (ℕ × ℕ) Fault → ℕ
load_of_clash (Ok a) = a.0
load_of_clash (Err f) = 0

abbrev pub heaviest_load : Site → ℕ
heaviest_load s = load_of_clash (heaviest_of s)

abbrev pub least_load : Site → ℕ
least_load s = least_number (least_answer s)

abbrev pub enough_by : Bool → (least room : ℕ) → ℕ
enough_by planned least room = pick planned (pick (ltb least room) least room) least

abbrev pub by_form : {A : Type 0} → A → A → Form → A
by_form known other Chained = known
by_form known other Nested = known
by_form known other Renumbered = known
by_form known other Neither = other

unfoldable pub takes_of : Site → Form → Result Way FindError → Extent
takes_of s form found =
    record {
      needs = heaviest_load s;
      enough = by_form (heaviest_load s) (enough_by (is_ok found) (least_load s) (open_here s)) form;
    }
