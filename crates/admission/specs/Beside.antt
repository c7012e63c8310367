-- Which flows a running site admits: "the best set of flows on top of the loads that the site has", "the same search with the loads as a start".
-- The refusals are an admission's, in its order; and after 19, before the flows, 5 as the load test names it: the lowest cell that is over by the loads alone,
-- and by how much. Then no set is allowed, not even the empty one.
use Rattle.std.specs.Prelude.{ℕ, ◌+◌, Bool, true, false, not, ◌&&◌, List, ltb, length, Result, Ok, Err}
use Rattle.laws.specs.Choice.{pick}
use Rattle.theory.specs.Net.{Net, everyone, loaded}
use Rattle.theory.specs.Verdict.{LoadVerdict, holds, over, load_verdict, class_verdict}
use Rattle.site.specs.Record.{is_fine, fault_of}
use Rattle.site.specs.Reach.{net_of}
use Rattle.site.specs.declared.Site.{Site}
use Rattle.admitting.specs.Best.{idle, best_beside}
use Rattle.flowlist.specs.List.{flow_at}
use Rattle.flowlist.specs.declared.Flow.{Flow}
use Rattle.admission.specs.Admit.{is_nested, answer_from, flows_of}
use Rattle.admission.specs.declared.AdmitError.{AdmitError}
use Rattle.admission.specs.declared.BesideError.{BesideError}
use Rattle.admission.specs.declared.BesideError.TheVariants.{Over, Admit}

-- the loads that count: those of the site, or none
abbrev pub start_for : Bool → Site → Net
start_for loads s = pick loads (net_of s) (idle (net_of s))

-- the record's faults, 18 and 19 are past
abbrev pub is_asked : Site → ℕ → Bool
is_asked s n = is_fine (fault_of s) && (not (ltb 16 n) && is_nested (class_verdict (net_of s) everyone))

-- an admission's answer, with its refusals
abbrev pub as_beside : Result ℕ AdmitError → Result ℕ BesideError
as_beside (Ok set) = Ok set
as_beside (Err refused) = Err (Admit refused)

-- 5 where the loads alone are over; cells are named by number, from 1
abbrev pub beside_where : Bool → LoadVerdict → Result ℕ AdmitError → Result ℕ BesideError
beside_where true (over i m) a = Err (Over (i + 1) m)
beside_where true holds a = as_beside a
beside_where false v a = as_beside a

unfoldable pub beside_in : Site → (ℕ → Flow) → ℕ → Result ℕ BesideError
beside_in s f n = beside_where (is_asked s n) (load_verdict (net_of s) (loaded (net_of s))) (answer_from (net_of s) s f n)

-- ---- the call, on a site and a list of flows

abbrev pub admitted_beside : Site → List Flow → ℕ
admitted_beside s fs = best_beside (net_of s) (flows_of s fs)

abbrev pub beside_answer : Site → List Flow → Result ℕ BesideError
beside_answer s fs = beside_in s (flow_at fs) (length fs)
