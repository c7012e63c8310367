-- For any arguments one answer and one content of what is lent meet the contract, and no other, in crate `capi`: by its equalities alone.
-- Made by tools/surface from the source. Assumes nothing.
use Rattle.std.specs.Prelude.{List, get_or, refl, ℕ, ◌≡◌}
use Rattle.admission.specs.Admit.{admit_answer}
use Rattle.admission.specs.Beside.{beside_answer}
use Rattle.admission.specs.Given.{admit_given, beside_given}
use Rattle.checker.specs.Check.{check_answer}
use Rattle.checker.specs.Given.{check_given}
use Rattle.contracts.specs.CapiSays.{DuggAdmit, DuggAdmitBeside, DuggCarry, DuggChain, DuggChangeLoad, DuggCheck, DuggCheckWords, DuggClash, DuggClass}
use Rattle.contracts.specs.CapiSays.{DuggClearReach, DuggFault, DuggFind, DuggHeaviest, DuggLeast, DuggList, DuggLoadTest, DuggMend, DuggOverFull, DuggPlan}
use Rattle.contracts.specs.CapiSays.{DuggPlanWords, DuggReadPlan, DuggReadSheet, DuggReadSite, DuggRenumber, DuggSearch, DuggSetLoad, DuggSetReach, DuggShare}
use Rattle.contracts.specs.CapiSays.{DuggShareRepeated, DuggTidy, DuggToBytes, DuggToWords, DuggVersion, DuggWhy, DuggWords, DuggWritePlan, DuggWriteSheet}
use Rattle.contracts.specs.CapiSays.{DuggWriteSite}
use Rattle.finder.specs.Find.{find_answer, find_table, over_full_answer}
use Rattle.finder.specs.Given.{find_given, over_full_given}
use Rattle.flowlist.specs.declared.Flow.{Flow}
use Rattle.handheld.specs.Change.{change_answer, change_site, change_table}
use Rattle.handheld.specs.Given.{change_given}
use Rattle.heaviest.specs.Given.{heaviest_given}
use Rattle.heaviest.specs.Sets.{heaviest_of}
use Rattle.judges.specs.Given.{chain_given, class_given, least_given, load_given}
use Rattle.judges.specs.Judges.{chain_answer, class_answer, least_answer, load_answer}
use Rattle.listhead.specs.Listing.{listing}
use Rattle.mender.specs.Given.{mend_given}
use Rattle.mender.specs.Mend.{mend_answer, mend_list, mend_table}
use Rattle.numbering.specs.Carried.{carry_answer, carry_table}
use Rattle.numbering.specs.Given.{carry_given}
use Rattle.numbering.specs.Renumber.{renumber_of}
use Rattle.planfile.specs.Given.{plan_written_given}
use Rattle.planfile.specs.Read.{plan_table_read, read_plan}
use Rattle.planfile.specs.Write.{plan_out, plan_written}
use Rattle.planner.specs.Given.{plan_given}
use Rattle.planner.specs.Plan.{plan_answer, plan_table}
use Rattle.records.specs.Given.{written_given}
use Rattle.records.specs.Write.{laid_over, written}
use Rattle.say_answers.specs.Said.{call_said}
use Rattle.search.specs.Given.{search_given}
use Rattle.search.specs.Search.{search_answer, search_table}
use Rattle.shares.specs.Given.{share_given}
use Rattle.shares.specs.Share.{default_repeats, share_of}
use Rattle.sheet.specs.Read.{read_sheet}
use Rattle.sheet.specs.Write.{sheet_out, sheet_written}
use Rattle.site.specs.Edit.{clear_reach_of, set_load_of, set_reach_of}
use Rattle.site.specs.Given.{clash_given, done_given}
use Rattle.site.specs.Reach.{clash_answer}
use Rattle.site.specs.Record.{fault_of}
use Rattle.site.specs.declared.Site.{Site}
use Rattle.sitefile.specs.Read.{read_site}
use Rattle.sitefile.specs.Write.{site_out, site_written}
use Rattle.tidying.specs.Given.{tidy_given}
use Rattle.tidying.specs.Tidy.{tidy_answer, tidy_out}
use Rattle.told.specs.Told.{numbered, told, told_renumbered}
use Rattle.told.specs.declared.Answer.{Answer}
use Rattle.told.specs.declared.RenumberedC.{RenumberedC}
use Rattle.toldfiles.specs.Files.{told_edited, told_plan_read, told_sheet_read, told_site_read}
use Rattle.toldfiles.specs.declared.Blocked.{Blocked}
use Rattle.toldfiles.specs.declared.EditedSite.{EditedSite}
use Rattle.toldfiles.specs.declared.PlanReadC.{PlanReadC}
use Rattle.whytext.specs.Text.{why_out, why_written}
use Rattle.wordtable.specs.Check.{check_words_answer}
use Rattle.wordtable.specs.Forms.{form_answer, to_bytes, to_words}
use Rattle.wordtable.specs.Given.{form_given}
use Rattle.wordtable.specs.Plan.{plan_words, plan_words_answer}

-- capi::dugg_fault
pub dugg_fault-one : (site : Site)
    → (r : Answer) × (DuggFault site r)
    × ((q : Answer) → DuggFault site q → (q ≡ r))
dugg_fault-one site = (
  told (done_given (fault_of site)),
  record { answer = refl },
  λ q says. says.answer,
)

-- capi::dugg_clash
pub dugg_clash-one : (site : Site) (a : ℕ) (b : ℕ)
    → (r : Answer) × (DuggClash site a b r)
    × ((q : Answer) → DuggClash site a b q → (q ≡ r))
dugg_clash-one site a b = (
  told (clash_given (clash_answer site a b)),
  record { answer = refl },
  λ q says. says.answer,
)

-- capi::dugg_set_load
pub dugg_set_load-one : (site : Site) (cell : ℕ) (load : ℕ)
    → (r : EditedSite) × (DuggSetLoad site cell load r)
    × ((q : EditedSite) → DuggSetLoad site cell load q → (q ≡ r))
dugg_set_load-one site cell load = (
  told_edited (set_load_of site cell load),
  record { answer = refl },
  λ q says. says.answer,
)

-- capi::dugg_set_reach
pub dugg_set_reach-one : (site : Site) (from : ℕ) (to : ℕ)
    → (r : EditedSite) × (DuggSetReach site from to r)
    × ((q : EditedSite) → DuggSetReach site from to q → (q ≡ r))
dugg_set_reach-one site from to = (
  told_edited (set_reach_of site from to),
  record { answer = refl },
  λ q says. says.answer,
)

-- capi::dugg_clear_reach
pub dugg_clear_reach-one : (site : Site) (from : ℕ) (to : ℕ)
    → (r : EditedSite) × (DuggClearReach site from to r)
    × ((q : EditedSite) → DuggClearReach site from to q → (q ≡ r))
dugg_clear_reach-one site from to = (
  told_edited (clear_reach_of site from to),
  record { answer = refl },
  λ q says. says.answer,
)

-- capi::dugg_load_test
pub dugg_load_test-one : (site : Site)
    → (r : Answer) × (DuggLoadTest site r)
    × ((q : Answer) → DuggLoadTest site q → (q ≡ r))
dugg_load_test-one site = (
  told (load_given (load_answer site)),
  record { answer = refl },
  λ q says. says.answer,
)

-- capi::dugg_chain
pub dugg_chain-one : (site : Site)
    → (r : Answer) × (DuggChain site r)
    × ((q : Answer) → DuggChain site q → (q ≡ r))
dugg_chain-one site = (
  told (chain_given (chain_answer site)),
  record { answer = refl },
  λ q says. says.answer,
)

-- capi::dugg_class
pub dugg_class-one : (site : Site)
    → (r : Answer) × (DuggClass site r)
    × ((q : Answer) → DuggClass site q → (q ≡ r))
dugg_class-one site = (
  told (class_given (class_answer site)),
  record { answer = refl },
  λ q says. says.answer,
)

-- capi::dugg_least
pub dugg_least-one : (site : Site)
    → (r : Answer) × (DuggLeast site r)
    × ((q : Answer) → DuggLeast site q → (q ≡ r))
dugg_least-one site = (
  told (least_given (least_answer site)),
  record { answer = refl },
  λ q says. says.answer,
)

-- capi::dugg_heaviest
pub dugg_heaviest-one : (site : Site)
    → (r : Answer) × (DuggHeaviest site r)
    × ((q : Answer) → DuggHeaviest site q → (q ≡ r))
dugg_heaviest-one site = (
  told (heaviest_given (heaviest_of site)),
  record { answer = refl },
  λ q says. says.answer,
)

-- capi::dugg_plan
pub dugg_plan-one : (site : Site) (table : List ℕ)
    → (r : Answer) × (table' : List ℕ) × (DuggPlan site table r table')
    × ((q : Answer) (table'' : List ℕ) → DuggPlan site table q table'' → (q ≡ r) × (table'' ≡ table'))
dugg_plan-one site table = (
  told (plan_given (plan_answer site table)),
  plan_table site table,
  record { answer = refl; table_after = refl },
  λ q table'' says. (says.answer, says.table_after),
)

-- capi::dugg_search
pub dugg_search-one : (site : Site) (limit : ℕ) (table : List ℕ)
    → (r : Answer) × (table' : List ℕ) × (DuggSearch site limit table r table')
    × ((q : Answer) (table'' : List ℕ) → DuggSearch site limit table q table'' → (q ≡ r) × (table'' ≡ table'))
dugg_search-one site limit table = (
  told (search_given (search_answer site limit table)),
  search_table site limit table,
  record { answer = refl; table_after = refl },
  λ q table'' says. (says.answer, says.table_after),
)

-- capi::dugg_find
pub dugg_find-one : (site : Site) (limit : ℕ) (table : List ℕ)
    → (r : Answer) × (table' : List ℕ) × (DuggFind site limit table r table')
    × ((q : Answer) (table'' : List ℕ) → DuggFind site limit table q table'' → (q ≡ r) × (table'' ≡ table'))
dugg_find-one site limit table = (
  told (find_given (find_answer site limit table)),
  find_table site limit table,
  record { answer = refl; table_after = refl },
  λ q table'' says. (says.answer, says.table_after),
)

-- capi::dugg_over_full
pub dugg_over_full-one : (site : Site) (cells : ℕ)
    → (r : Answer) × (DuggOverFull site cells r)
    × ((q : Answer) → DuggOverFull site cells q → (q ≡ r))
dugg_over_full-one site cells = (
  told (over_full_given (over_full_answer site cells)),
  record { answer = refl },
  λ q says. says.answer,
)

-- capi::dugg_change_load
pub dugg_change_load-one : (site : Site) (cell : ℕ) (load : ℕ) (table : List ℕ)
    → (r : Answer) × (site' : Site) × (table' : List ℕ) × (DuggChangeLoad site cell load table r site' table')
    × ((q : Answer) (site'' : Site) (table'' : List ℕ) → DuggChangeLoad site cell load table q site'' table'' → (q ≡ r) × (site'' ≡ site') × (table'' ≡ table'))
dugg_change_load-one site cell load table = (
  told (change_given (change_answer site cell load table)),
  change_site site cell load table,
  change_table site cell load table,
  record { answer = refl; site_after = refl; table_after = refl },
  λ q site'' table'' says. (says.answer, says.site_after, says.table_after),
)

-- capi::dugg_check
pub dugg_check-one : (site : Site) (table : List ℕ)
    → (r : Answer) × (DuggCheck site table r)
    × ((q : Answer) → DuggCheck site table q → (q ≡ r))
dugg_check-one site table = (
  told (check_given (check_answer site table)),
  record { answer = refl },
  λ q says. says.answer,
)

-- capi::dugg_plan_words
pub dugg_plan_words-one : (site : Site) (words : List ℕ)
    → (r : Answer) × (words' : List ℕ) × (DuggPlanWords site words r words')
    × ((q : Answer) (words'' : List ℕ) → DuggPlanWords site words q words'' → (q ≡ r) × (words'' ≡ words'))
dugg_plan_words-one site words = (
  told (plan_given (plan_words_answer site words)),
  plan_words site words,
  record { answer = refl; words_after = refl },
  λ q words'' says. (says.answer, says.words_after),
)

-- capi::dugg_check_words
pub dugg_check_words-one : (site : Site) (words : List ℕ)
    → (r : Answer) × (DuggCheckWords site words r)
    × ((q : Answer) → DuggCheckWords site words q → (q ≡ r))
dugg_check_words-one site words = (
  told (check_given (check_words_answer site words)),
  record { answer = refl },
  λ q says. says.answer,
)

-- capi::dugg_to_words
pub dugg_to_words-one : (site : Site) (table : List ℕ) (words : List ℕ)
    → (r : Answer) × (words' : List ℕ) × (DuggToWords site table words r words')
    × ((q : Answer) (words'' : List ℕ) → DuggToWords site table words q words'' → (q ≡ r) × (words'' ≡ words'))
dugg_to_words-one site table words = (
  told (form_given (form_answer site table words)),
  to_words site table words,
  record { answer = refl; words_after = refl },
  λ q words'' says. (says.answer, says.words_after),
)

-- capi::dugg_to_bytes
pub dugg_to_bytes-one : (site : Site) (words : List ℕ) (table : List ℕ)
    → (r : Answer) × (table' : List ℕ) × (DuggToBytes site words table r table')
    × ((q : Answer) (table'' : List ℕ) → DuggToBytes site words table q table'' → (q ≡ r) × (table'' ≡ table'))
dugg_to_bytes-one site words table = (
  told (form_given (form_answer site table words)),
  to_bytes site words table,
  record { answer = refl; table_after = refl },
  λ q table'' says. (says.answer, says.table_after),
)

-- capi::dugg_mend
pub dugg_mend-one : (site : Site) (table : List ℕ) (changes : List ℕ)
    → (r : Answer) × (table' : List ℕ) × (changes' : List ℕ) × (DuggMend site table changes r table' changes')
    × ((q : Answer) (table'' : List ℕ) (changes'' : List ℕ) → DuggMend site table changes q table'' changes''
    → (q ≡ r) × (table'' ≡ table') × (changes'' ≡ changes'))
dugg_mend-one site table changes = (
  told (mend_given (mend_answer site table changes)),
  mend_table site table changes,
  mend_list site table changes,
  record { answer = refl; table_after = refl; changes_after = refl },
  λ q table'' changes'' says. (says.answer, says.table_after, says.changes_after),
)

-- capi::dugg_renumber
pub dugg_renumber-one : (site : Site)
    → (r : RenumberedC) × (DuggRenumber site r)
    × ((q : RenumberedC) → DuggRenumber site q → (q ≡ r))
dugg_renumber-one site = (
  told_renumbered (renumber_of site),
  record { answer = refl },
  λ q says. says.answer,
)

-- capi::dugg_carry
pub dugg_carry-one : (site : Site) (from : List ℕ) (to : List ℕ)
    → (r : Answer) × (to' : List ℕ) × (DuggCarry site from to r to')
    × ((q : Answer) (to'' : List ℕ) → DuggCarry site from to q to'' → (q ≡ r) × (to'' ≡ to'))
dugg_carry-one site from to = (
  told (carry_given (carry_answer site from to)),
  carry_table site from to,
  record { answer = refl; to_after = refl },
  λ q to'' says. (says.answer, says.to_after),
)

-- capi::dugg_share
pub dugg_share-one : (slots : ℕ) (burst : ℕ) (period : ℕ)
    → (r : Answer) × (DuggShare slots burst period r)
    × ((q : Answer) → DuggShare slots burst period q → (q ≡ r))
dugg_share-one slots burst period = (
  told (share_given (share_of slots burst period default_repeats)),
  record { answer = refl },
  λ q says. says.answer,
)

-- capi::dugg_share_repeated
pub dugg_share_repeated-one : (slots : ℕ) (burst : ℕ) (period : ℕ) (repeats : ℕ)
    → (r : Answer) × (DuggShareRepeated slots burst period repeats r)
    × ((q : Answer) → DuggShareRepeated slots burst period repeats q → (q ≡ r))
dugg_share_repeated-one slots burst period repeats = (
  told (share_given (share_of slots burst period repeats)),
  record { answer = refl },
  λ q says. says.answer,
)

-- capi::dugg_read_site
pub dugg_read_site-one : (bytes : List ℕ)
    → (r : EditedSite) × (DuggReadSite bytes r)
    × ((q : EditedSite) → DuggReadSite bytes q → (q ≡ r))
dugg_read_site-one bytes = (
  told_site_read (read_site bytes),
  record { answer = refl },
  λ q says. says.answer,
)

-- capi::dugg_write_site
pub dugg_write_site-one : (site : Site) (out : List ℕ)
    → (r : Answer) × (out' : List ℕ) × (DuggWriteSite site out r out')
    × ((q : Answer) (out'' : List ℕ) → DuggWriteSite site out q out'' → (q ≡ r) × (out'' ≡ out'))
dugg_write_site-one site out = (
  told (written_given (site_written site out)),
  site_out site out,
  record { answer = refl; out_after = refl },
  λ q out'' says. (says.answer, says.out_after),
)

-- capi::dugg_read_plan
pub dugg_read_plan-one : (bytes : List ℕ) (table : List ℕ)
    → (r : PlanReadC) × (table' : List ℕ) × (DuggReadPlan bytes table r table')
    × ((q : PlanReadC) (table'' : List ℕ) → DuggReadPlan bytes table q table'' → (q ≡ r) × (table'' ≡ table'))
dugg_read_plan-one bytes table = (
  told_plan_read (read_plan bytes table),
  plan_table_read bytes table,
  record { answer = refl; table_after = refl },
  λ q table'' says. (says.answer, says.table_after),
)

-- capi::dugg_write_plan
pub dugg_write_plan-one : (site : Site) (table : List ℕ) (out : List ℕ)
    → (r : Answer) × (out' : List ℕ) × (DuggWritePlan site table out r out')
    × ((q : Answer) (out'' : List ℕ) → DuggWritePlan site table out q out'' → (q ≡ r) × (out'' ≡ out'))
dugg_write_plan-one site table out = (
  told (plan_written_given (plan_written site table out)),
  plan_out site table out,
  record { answer = refl; out_after = refl },
  λ q out'' says. (says.answer, says.out_after),
)

-- capi::dugg_read_sheet
pub dugg_read_sheet-one : (bytes : List ℕ) (slots : ℕ) (channels : ℕ) (blocked : Blocked) (rule : ℕ)
    → (r : EditedSite) × (DuggReadSheet bytes slots channels blocked rule r)
    × ((q : EditedSite) → DuggReadSheet bytes slots channels blocked rule q → (q ≡ r))
dugg_read_sheet-one bytes slots channels blocked rule = (
  told_sheet_read (read_sheet bytes slots channels blocked.bits rule),
  record { answer = refl },
  λ q says. says.answer,
)

-- capi::dugg_write_sheet
pub dugg_write_sheet-one : (site : Site) (out : List ℕ)
    → (r : Answer) × (out' : List ℕ) × (DuggWriteSheet site out r out')
    × ((q : Answer) (out'' : List ℕ) → DuggWriteSheet site out q out'' → (q ≡ r) × (out'' ≡ out'))
dugg_write_sheet-one site out = (
  told (written_given (sheet_written site out)),
  sheet_out site out,
  record { answer = refl; out_after = refl },
  λ q out'' says. (says.answer, says.out_after),
)

-- capi::dugg_tidy
pub dugg_tidy-one : (sheet : List ℕ) (out : List ℕ)
    → (r : Answer) × (out' : List ℕ) × (DuggTidy sheet out r out')
    × ((q : Answer) (out'' : List ℕ) → DuggTidy sheet out q out'' → (q ≡ r) × (out'' ≡ out'))
dugg_tidy-one sheet out = (
  told (tidy_given (tidy_answer sheet out)),
  tidy_out sheet out,
  record { answer = refl; out_after = refl },
  λ q out'' says. (says.answer, says.out_after),
)

-- capi::dugg_admit
pub dugg_admit-one : (site : Site) (flows : List Flow)
    → (r : Answer) × (DuggAdmit site flows r)
    × ((q : Answer) → DuggAdmit site flows q → (q ≡ r))
dugg_admit-one site flows = (
  told (admit_given (admit_answer site flows)),
  record { answer = refl },
  λ q says. says.answer,
)

-- capi::dugg_admit_beside
pub dugg_admit_beside-one : (site : Site) (flows : List Flow)
    → (r : Answer) × (DuggAdmitBeside site flows r)
    × ((q : Answer) → DuggAdmitBeside site flows q → (q ≡ r))
dugg_admit_beside-one site flows = (
  told (beside_given (beside_answer site flows)),
  record { answer = refl },
  λ q says. says.answer,
)

-- capi::dugg_words
pub dugg_words-one : (given : Answer) (call : ℕ) (out : List ℕ)
    → (r : Answer) × (out' : List ℕ) × (DuggWords given call out r out')
    × ((q : Answer) (out'' : List ℕ) → DuggWords given call out q out'' → (q ≡ r) × (out'' ≡ out'))
dugg_words-one given call out = (
  told (written_given (written (call_said call given.number (get_or given.value 0 0) (get_or given.value 1 0) (get_or given.value 2 0)) out)),
  laid_over (call_said call given.number (get_or given.value 0 0) (get_or given.value 1 0) (get_or given.value 2 0)) out,
  record { answer = refl; out_after = refl },
  λ q out'' says. (says.answer, says.out_after),
)

-- capi::dugg_why
pub dugg_why-one : (site : Site) (out : List ℕ)
    → (r : Answer) × (out' : List ℕ) × (DuggWhy site out r out')
    × ((q : Answer) (out'' : List ℕ) → DuggWhy site out q out'' → (q ≡ r) × (out'' ≡ out'))
dugg_why-one site out = (
  told (written_given (why_written site out)),
  why_out site out,
  record { answer = refl; out_after = refl },
  λ q out'' says. (says.answer, says.out_after),
)

-- capi::dugg_list
pub dugg_list-one : (bytes : List ℕ) (out : List ℕ)
    → (r : Answer) × (out' : List ℕ) × (DuggList bytes out r out')
    × ((q : Answer) (out'' : List ℕ) → DuggList bytes out q out'' → (q ≡ r) × (out'' ≡ out'))
dugg_list-one bytes out = (
  told (written_given (written (listing bytes) out)),
  laid_over (listing bytes) out,
  record { answer = refl; out_after = refl },
  λ q out'' says. (says.answer, says.out_after),
)

-- capi::dugg_version
pub dugg_version-one : (r : Answer) × (DuggVersion r)
    × ((q : Answer) → DuggVersion q → (q ≡ r))
dugg_version-one = (
  numbered 0 4 0 0,
  record { answer = refl },
  λ q says. says.answer,
)
