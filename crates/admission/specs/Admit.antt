-- Which flows a site admits: the record's faults; "18 over 16 flows, 19 site not chained, then per flow 2, 15, 16 with the flow's number";
-- then the best set of the flows. W9: "Admission then accepts the class, all cells counted as loaded; refusal 19 is given exactly outside it."
-- Flows are counted from 0 here, by their place, and numbered from 1 in answers.
use Rattle.std.specs.Prelude.{ℕ, ◌+◌, ◌-◌, Bool, true, false, not, ◌&&◌, List, ltb, length, Result, Ok, Err, is_ok, Option, Some, None}
use Rattle.laws.specs.Choice.{pick}
use Rattle.laws.specs.Search.{first}
use Rattle.theory.specs.Net.{Net, everyone}
use Rattle.theory.specs.Verdict.{ChainVerdict, chained, broken, ClassVerdict, in_class, outside, class_verdict}
use Rattle.site.specs.Record.{up_to, fault_of, answer_with}
use Rattle.site.specs.Reach.{net_of}
use Rattle.site.specs.declared.Site.{Site}
use Rattle.shares.specs.Share.{share_of}
use Rattle.shares.specs.declared.Fragments.{Fragments}
use Rattle.shares.specs.declared.Slots.{Slots}
use Rattle.shares.specs.declared.ShareError.{ShareError}
use Rattle.shares.specs.declared.ShareError.TheVariants as share
use Rattle.admitting.specs.Best.{Flows, idle, best_beside, best}
use Rattle.flowlist.specs.List.{flow_at}
use Rattle.flowlist.specs.declared.Flow.{Flow}
use Rattle.admission.specs.declared.AdmitError.{AdmitError}
use Rattle.admission.specs.declared.AdmitError.TheVariants.{TooMany, NotNested, BadCell, BadFlow, BigShare, Record}
use Rattle.admission.specs.declared.Asked.{Asked}

-- ---- one flow, on a site with so many cells and slots

-- the share, with repeats, that the public call answers for the flow
abbrev pub share_in : ℕ → Flow → Result (Fragments × Fragments × Slots) ShareError
share_in slots f = share_of slots f.burst f.period f.repeats

-- how many fragments a share's answer asks for; none where there is no share
abbrev pub amount : Result (Fragments × Fragments × Slots) ShareError → ℕ
amount (Ok a) = a.0.0
amount (Err refused) = 0

-- whether a flow is refused: its cell is outside 1..I, or it has no share
unfoldable pub bad_in : ℕ → ℕ → Flow → Bool
bad_in cells slots f = not (up_to cells f.cell && is_ok (share_in slots f))

-- what a flow with no share is refused with: 16 where the share is too big, else 15
abbrev pub share_refused : ℕ → Result (Fragments × Fragments × Slots) ShareError → AdmitError
share_refused number (Err share.BigShare) = BigShare number
share_refused number (Err share.OutOfRange) = BadFlow number
share_refused number (Err share.BadFlow) = BadFlow number
share_refused number (Ok a) = BadFlow number

-- "then per flow 2, 15, 16 with the flow's number"
unfoldable pub refused_in : ℕ → ℕ → Flow → ℕ → AdmitError
refused_in cells slots f number = pick (up_to cells f.cell) (share_refused number (share_in slots f)) (BadCell number)

-- what the search takes of a flow: the place of its cell, and its share. None of a flow that is refused
abbrev pub asked_by : ℕ → ℕ → Flow → Option Asked
asked_by cells slots f = pick (bad_in cells slots f) None (Some (record { cell = f.cell - 1; share = amount (share_in slots f) }))

-- ---- the flows of a list, given by place

-- the place of the first flow that is refused; n where none of the n is
unfoldable pub first_bad_in : ℕ → ℕ → (ℕ → Flow) → ℕ → ℕ
first_bad_in cells slots f n = first (λ k. bad_in cells slots (f k)) 0 n

-- the flows as the search takes them
abbrev pub flows_asked : ℕ → (ℕ → Flow) → ℕ → Flows
flows_asked slots f n = record { count = n; cell = λ k. (f k).cell - 1; share = λ k. amount (share_in slots (f k)); value = λ k. (f k).value }

abbrev pub is_nested : ClassVerdict → Bool
is_nested in_class = true
is_nested (outside a b i) = false

-- what 19 asked before W9
abbrev pub is_chained : ChainVerdict → Bool
is_chained chained = true
is_chained (broken a b c) = false

-- the first flow that is refused, or else the best set: on top of the loads of `start`, the site's problem with the loads that count
abbrev pub settled_on : Net → Site → (ℕ → Flow) → ℕ → ℕ → Result ℕ AdmitError
settled_on start s f n bad =
    pick (ltb bad n) (Err (refused_in s.cells s.slots (f bad) (bad + 1))) (Ok (best_beside start (flows_asked s.slots f n)))

-- "record faults first, then 18 over 16 flows", then 19 unless the site suits
abbrev pub answer_on : Net → Bool → Site → (ℕ → Flow) → ℕ → Result ℕ AdmitError
answer_on start suits s f n =
    answer_with Record (fault_of s)
    (pick (ltb 16 n) (Err TooMany)
    (pick suits (settled_on start s f n (first_bad_in s.cells s.slots f n)) (Err NotNested)))

-- "The site's own loads are set aside here: every cell starts at 0"
abbrev pub answer_where : Bool → Site → (ℕ → Flow) → ℕ → Result ℕ AdmitError
answer_where suits s f n = answer_on (idle (net_of s)) suits s f n

-- a site suits where it is in the class, "all cells counted as loaded"
unfoldable pub answer_from : Net → Site → (ℕ → Flow) → ℕ → Result ℕ AdmitError
answer_from start s f n = answer_on start (is_nested (class_verdict (net_of s) everyone)) s f n

abbrev pub answer_in : Site → (ℕ → Flow) → ℕ → Result ℕ AdmitError
answer_in s f n = answer_from (idle (net_of s)) s f n

-- ---- the call, on a site and a list of flows

abbrev pub flow_share : Site → Flow → Result (Fragments × Fragments × Slots) ShareError
flow_share s = share_in s.slots

abbrev pub flow_bad : Site → Flow → Bool
flow_bad s = bad_in s.cells s.slots

abbrev pub flow_refused : Site → Flow → ℕ → AdmitError
flow_refused s = refused_in s.cells s.slots

abbrev pub first_bad : Site → List Flow → ℕ
first_bad s fs = first_bad_in s.cells s.slots (flow_at fs) (length fs)

abbrev pub flows_of : Site → List Flow → Flows
flows_of s fs = flows_asked s.slots (flow_at fs) (length fs)

-- "Answer the set of greatest total value whose shares, summed by cell, pass the load test"; W8: "N in the load test becomes the count of open positions",
-- `room` of the problem
abbrev pub admitted : Site → List Flow → ℕ
admitted s fs = best (net_of s) (flows_of s fs)

abbrev pub admit_answer : Site → List Flow → Result ℕ AdmitError
admit_answer s fs = answer_in s (flow_at fs) (length fs)
