-- The text of `duggfrask admit`: that the loads of the site do not count; for each flow its cell, its share and its value, and whether it is taken; what the
-- flows that are taken are worth; or why there is no answer.
use Rattle.std.specs.Prelude.{ℕ, zero, suc, ◌+◌, List, [], ◌++◌, Result, Ok, Err, Some, None}
use Rattle.laws.specs.Bits.{bit_at}
use Rattle.laws.specs.Choice.{pick}
use Rattle.theory.specs.Net.{everyone}
use Rattle.theory.specs.Verdict.{ClassVerdict, in_class, outside, class_verdict}
use Rattle.site.specs.Record.{fault_of, is_fine}
use Rattle.site.specs.Reach.{net_of}
use Rattle.site.specs.declared.Site.{Site}
use Rattle.flowlist.specs.declared.Flow.{Flow}
use Rattle.admitting.specs.Best.{worth}
use Rattle.admission.specs.Admit.{share_in, amount, flows_asked}
use Rattle.admission.specs.declared.AdmitError.{AdmitError}
use Rattle.admission.specs.declared.AdmitError.TheVariants as admit
use Rattle.admission.specs.declared.BesideError.{BesideError}
use Rattle.admission.specs.declared.BesideError.TheVariants as beside
use Rattle.planner.specs.declared.PlanError.TheVariants as plan
use Rattle.phrases.specs.Phrases.{phrase}
use Rattle.phrases.specs.declared.Phrase.{Phrase}
use Rattle.phrases.specs.declared.Phrase.TheVariants.{Row}
use Rattle.say_refusals.specs.Said.{refused_line}
use Rattle.say_refusals.specs.declared.Place.TheVariants as place
use Rattle.verdicts.specs.Said.{fault_said, plan_said}
use Rattle.say_flows.specs.Lines.{admit_lines, nineteen_lines, aside_row, taken_row, left_row, worth_row, beside_row, nineteen_row}

-- ---- the flows

-- whether the loads count: "The site's own loads are set aside here: every cell starts at 0", or "on top of the loads that the site has"
abbrev pub start_phrase : ℕ → Phrase
start_phrase row = Row row 0 0 0 0

-- the flow at place k: it is taken where its bit is in the set
abbrev pub flow_phrase : (slots set : ℕ) → Flow → ℕ → Phrase
flow_phrase slots set f k = Row (pick (bit_at set k) taken_row left_row) (k + 1) f.cell (amount (share_in slots f)) f.value

-- the lines of the first n flows, in order
unfoldable pub list_said : (slots set : ℕ) → (ℕ → Flow) → ℕ → List ℕ
list_said slots set f zero = []
list_said slots set f (suc k) = list_said slots set f k ++ phrase admit_lines (flow_phrase slots set (f k) k)

abbrev pub worth_phrase : (w : ℕ) → Phrase
worth_phrase w = Row worth_row w 0 0 0

-- ---- the class

-- a and b clash with i, and not with one another
abbrev pub split_line : (a b i : ℕ) → List ℕ
split_line a b i = phrase nineteen_lines (Row nineteen_row a b i 0)

-- the first three cells that show a site outside the class, by number
abbrev pub split_said : ClassVerdict → List ℕ
split_said (outside a b i) = split_line (a + 1) (b + 1) (i + 1)
split_said in_class = refused_line 19 None

-- W9: "Admission then accepts the class, all cells counted as loaded; refusal 19 is given exactly outside it." Of a record at fault, or a site in the class,
-- it is never answered: `nineteen-said` in proofs/Outside.antt
unfoldable pub nineteen_said : Site → List ℕ
nineteen_said s = pick (is_fine (fault_of s)) (split_said (class_verdict (net_of s) everyone)) (refused_line 19 None)

-- ---- the answer

-- the refusal: "18 over 16 flows, 19 site not chained", W9: not nested, "then per flow 2, 15, 16 with the flow's number"
abbrev pub refusal_said : Site → AdmitError → List ℕ
refusal_said s admit.TooMany = refused_line 18 None
refusal_said s admit.NotNested = nineteen_said s
refusal_said s (admit.BadCell k) = refused_line 2 (Some (place.Flow k))
refusal_said s (admit.BadFlow k) = refused_line 15 (Some (place.Flow k))
refusal_said s (admit.BigShare k) = refused_line 16 (Some (place.Flow k))
refusal_said s (admit.Record fault) = fault_said fault

-- which flows to take, after the row that says whether the loads count, and their total value; or the refusal
abbrev pub answer_said : ℕ → Site → (ℕ → Flow) → ℕ → Result ℕ AdmitError → List ℕ
answer_said row s f n (Ok set) =
    phrase admit_lines (start_phrase row) ++ (list_said s.slots set f n ++ phrase admit_lines (worth_phrase (worth (flows_asked s.slots f n) set)))
answer_said row s f n (Err refused) = refusal_said s refused

abbrev pub admit_said : Site → (ℕ → Flow) → ℕ → Result ℕ AdmitError → List ℕ
admit_said s f n a = answer_said aside_row s f n a

-- on top of the loads: the same, and 5 as the planner says it, with the lowest cell that is over by the loads alone and by how much
abbrev pub beside_said : Site → (ℕ → Flow) → ℕ → Result ℕ BesideError → List ℕ
beside_said s f n (Ok set) = answer_said beside_row s f n (Ok set)
beside_said s f n (Err (beside.Admit refused)) = answer_said beside_row s f n (Err refused)
beside_said s f n (Err (beside.Over cell excess)) = plan_said s (Err (plan.NoRoom cell excess))
