-- The equalities that the contracts of crate `capi` state: r is the answer, and x' what a lent x holds afterwards.
-- Made by tools/surface from the source.
use Rattle.std.specs.Prelude.{List, get_or, ℕ, ◌≡◌}
use Rattle.admission.specs.Admit.{admit_answer}
use Rattle.admission.specs.Beside.{beside_answer}
use Rattle.admission.specs.Given.{admit_given, beside_given}
use Rattle.checker.specs.Check.{check_answer}
use Rattle.checker.specs.Given.{check_given}
use Rattle.finder.specs.Find.{find_answer, find_table, over_full_answer}
use Rattle.finder.specs.Given.{find_given, over_full_given}
use Rattle.flowlist.specs.declared.Flow.{Flow}
use Rattle.handheld.specs.Change.{change_answer, change_site, change_table}
use Rattle.handheld.specs.Given.{change_given}
use Rattle.heaviest.specs.Given.{heaviest_given}
use Rattle.heaviest.specs.Sets.{heaviest_of}
use Rattle.judges.specs.Given.{chain_given, class_given, least_given, load_given}
use Rattle.judges.specs.Judges.{chain_answer, class_answer, least_answer, load_answer}
use Rattle.listhead.specs.Listing.{listing}
use Rattle.mender.specs.Given.{mend_given}
use Rattle.mender.specs.Mend.{mend_answer, mend_list, mend_table}
use Rattle.numbering.specs.Carried.{carry_answer, carry_table}
use Rattle.numbering.specs.Given.{carry_given}
use Rattle.numbering.specs.Renumber.{renumber_of}
use Rattle.planfile.specs.Given.{plan_written_given}
use Rattle.planfile.specs.Read.{plan_table_read, read_plan}
use Rattle.planfile.specs.Write.{plan_out, plan_written}
use Rattle.planner.specs.Given.{plan_given}
use Rattle.planner.specs.Plan.{plan_answer, plan_table}
use Rattle.records.specs.Given.{written_given}
use Rattle.records.specs.Write.{laid_over, written}
use Rattle.say_answers.specs.Said.{call_said}
use Rattle.search.specs.Given.{search_given}
use Rattle.search.specs.Search.{search_answer, search_table}
use Rattle.shares.specs.Given.{share_given}
use Rattle.shares.specs.Share.{default_repeats, share_of}
use Rattle.sheet.specs.Read.{read_sheet}
use Rattle.sheet.specs.Write.{sheet_out, sheet_written}
use Rattle.site.specs.Edit.{clear_reach_of, set_load_of, set_reach_of}
use Rattle.site.specs.Given.{clash_given, done_given}
use Rattle.site.specs.Reach.{clash_answer}
use Rattle.site.specs.Record.{fault_of}
use Rattle.site.specs.declared.Site.{Site}
use Rattle.sitefile.specs.Read.{read_site}
use Rattle.sitefile.specs.Write.{site_out, site_written}
use Rattle.tidying.specs.Given.{tidy_given}
use Rattle.tidying.specs.Tidy.{tidy_answer, tidy_out}
use Rattle.told.specs.Told.{numbered, told, told_renumbered}
use Rattle.told.specs.declared.Answer.{Answer}
use Rattle.told.specs.declared.RenumberedC.{RenumberedC}
use Rattle.toldfiles.specs.Files.{told_edited, told_plan_read, told_sheet_read, told_site_read}
use Rattle.toldfiles.specs.declared.Blocked.{Blocked}
use Rattle.toldfiles.specs.declared.EditedSite.{EditedSite}
use Rattle.toldfiles.specs.declared.PlanReadC.{PlanReadC}
use Rattle.whytext.specs.Text.{why_out, why_written}
use Rattle.wordtable.specs.Check.{check_words_answer}
use Rattle.wordtable.specs.Forms.{form_answer, to_bytes, to_words}
use Rattle.wordtable.specs.Given.{form_given}
use Rattle.wordtable.specs.Plan.{plan_words, plan_words_answer}

-- capi::dugg_fault
pub record DuggFault (site : Site) (r : Answer) : Type 0 where
  pub answer : r ≡ told (done_given (fault_of site))

-- capi::dugg_clash
pub record DuggClash (site : Site) (a : ℕ) (b : ℕ) (r : Answer) : Type 0 where
  pub answer : r ≡ told (clash_given (clash_answer site a b))

-- capi::dugg_set_load
pub record DuggSetLoad (site : Site) (cell : ℕ) (load : ℕ) (r : EditedSite) : Type 0 where
  pub answer : r ≡ told_edited (set_load_of site cell load)

-- capi::dugg_set_reach
pub record DuggSetReach (site : Site) (from : ℕ) (to : ℕ) (r : EditedSite) : Type 0 where
  pub answer : r ≡ told_edited (set_reach_of site from to)

-- capi::dugg_clear_reach
pub record DuggClearReach (site : Site) (from : ℕ) (to : ℕ) (r : EditedSite) : Type 0 where
  pub answer : r ≡ told_edited (clear_reach_of site from to)

-- capi::dugg_load_test
pub record DuggLoadTest (site : Site) (r : Answer) : Type 0 where
  pub answer : r ≡ told (load_given (load_answer site))

-- capi::dugg_chain
pub record DuggChain (site : Site) (r : Answer) : Type 0 where
  pub answer : r ≡ told (chain_given (chain_answer site))

-- capi::dugg_class
pub record DuggClass (site : Site) (r : Answer) : Type 0 where
  pub answer : r ≡ told (class_given (class_answer site))

-- capi::dugg_least
pub record DuggLeast (site : Site) (r : Answer) : Type 0 where
  pub answer : r ≡ told (least_given (least_answer site))

-- capi::dugg_heaviest
pub record DuggHeaviest (site : Site) (r : Answer) : Type 0 where
  pub answer : r ≡ told (heaviest_given (heaviest_of site))

-- capi::dugg_plan
pub record DuggPlan (site : Site) (table : List ℕ) (r : Answer) (table' : List ℕ) : Type 0 where
  pub answer : r ≡ told (plan_given (plan_answer site table))
  pub table_after : table' ≡ plan_table site table

-- capi::dugg_search
pub record DuggSearch (site : Site) (limit : ℕ) (table : List ℕ) (r : Answer) (table' : List ℕ) : Type 0 where
  pub answer : r ≡ told (search_given (search_answer site limit table))
  pub table_after : table' ≡ search_table site limit table

-- capi::dugg_find
pub record DuggFind (site : Site) (limit : ℕ) (table : List ℕ) (r : Answer) (table' : List ℕ) : Type 0 where
  pub answer : r ≡ told (find_given (find_answer site limit table))
  pub table_after : table' ≡ find_table site limit table

-- capi::dugg_over_full
pub record DuggOverFull (site : Site) (cells : ℕ) (r : Answer) : Type 0 where
  pub answer : r ≡ told (over_full_given (over_full_answer site cells))

-- capi::dugg_change_load
pub record DuggChangeLoad (site : Site) (cell : ℕ) (load : ℕ) (table : List ℕ) (r : Answer) (site' : Site) (table' : List ℕ) : Type 0 where
  pub answer : r ≡ told (change_given (change_answer site cell load table))
  pub site_after : site' ≡ change_site site cell load table
  pub table_after : table' ≡ change_table site cell load table

-- capi::dugg_check
pub record DuggCheck (site : Site) (table : List ℕ) (r : Answer) : Type 0 where
  pub answer : r ≡ told (check_given (check_answer site table))

-- capi::dugg_plan_words
pub record DuggPlanWords (site : Site) (words : List ℕ) (r : Answer) (words' : List ℕ) : Type 0 where
  pub answer : r ≡ told (plan_given (plan_words_answer site words))
  pub words_after : words' ≡ plan_words site words

-- capi::dugg_check_words
pub record DuggCheckWords (site : Site) (words : List ℕ) (r : Answer) : Type 0 where
  pub answer : r ≡ told (check_given (check_words_answer site words))

-- capi::dugg_to_words
pub record DuggToWords (site : Site) (table : List ℕ) (words : List ℕ) (r : Answer) (words' : List ℕ) : Type 0 where
  pub answer : r ≡ told (form_given (form_answer site table words))
  pub words_after : words' ≡ to_words site table words

-- capi::dugg_to_bytes
pub record DuggToBytes (site : Site) (words : List ℕ) (table : List ℕ) (r : Answer) (table' : List ℕ) : Type 0 where
  pub answer : r ≡ told (form_given (form_answer site table words))
  pub table_after : table' ≡ to_bytes site words table

-- capi::dugg_mend
pub record DuggMend (site : Site) (table : List ℕ) (changes : List ℕ) (r : Answer) (table' : List ℕ) (changes' : List ℕ) : Type 0 where
  pub answer : r ≡ told (mend_given (mend_answer site table changes))
  pub table_after : table' ≡ mend_table site table changes
  pub changes_after : changes' ≡ mend_list site table changes

-- capi::dugg_renumber
pub record DuggRenumber (site : Site) (r : RenumberedC) : Type 0 where
  pub answer : r ≡ told_renumbered (renumber_of site)

-- capi::dugg_carry
pub record DuggCarry (site : Site) (from : List ℕ) (to : List ℕ) (r : Answer) (to' : List ℕ) : Type 0 where
  pub answer : r ≡ told (carry_given (carry_answer site from to))
  pub to_after : to' ≡ carry_table site from to

-- capi::dugg_share
pub record DuggShare (slots : ℕ) (burst : ℕ) (period : ℕ) (r : Answer) : Type 0 where
  pub answer : r ≡ told (share_given (share_of slots burst period default_repeats))

-- capi::dugg_share_repeated
pub record DuggShareRepeated (slots : ℕ) (burst : ℕ) (period : ℕ) (repeats : ℕ) (r : Answer) : Type 0 where
  pub answer : r ≡ told (share_given (share_of slots burst period repeats))

-- capi::dugg_read_site
pub record DuggReadSite (bytes : List ℕ) (r : EditedSite) : Type 0 where
  pub answer : r ≡ told_site_read (read_site bytes)

-- capi::dugg_write_site
pub record DuggWriteSite (site : Site) (out : List ℕ) (r : Answer) (out' : List ℕ) : Type 0 where
  pub answer : r ≡ told (written_given (site_written site out))
  pub out_after : out' ≡ site_out site out

-- capi::dugg_read_plan
pub record DuggReadPlan (bytes : List ℕ) (table : List ℕ) (r : PlanReadC) (table' : List ℕ) : Type 0 where
  pub answer : r ≡ told_plan_read (read_plan bytes table)
  pub table_after : table' ≡ plan_table_read bytes table

-- capi::dugg_write_plan
pub record DuggWritePlan (site : Site) (table : List ℕ) (out : List ℕ) (r : Answer) (out' : List ℕ) : Type 0 where
  pub answer : r ≡ told (plan_written_given (plan_written site table out))
  pub out_after : out' ≡ plan_out site table out

-- capi::dugg_read_sheet
pub record DuggReadSheet (bytes : List ℕ) (slots : ℕ) (channels : ℕ) (blocked : Blocked) (rule : ℕ) (r : EditedSite) : Type 0 where
  pub answer : r ≡ told_sheet_read (read_sheet bytes slots channels blocked.bits rule)

-- capi::dugg_write_sheet
pub record DuggWriteSheet (site : Site) (out : List ℕ) (r : Answer) (out' : List ℕ) : Type 0 where
  pub answer : r ≡ told (written_given (sheet_written site out))
  pub out_after : out' ≡ sheet_out site out

-- capi::dugg_tidy
pub record DuggTidy (sheet : List ℕ) (out : List ℕ) (r : Answer) (out' : List ℕ) : Type 0 where
  pub answer : r ≡ told (tidy_given (tidy_answer sheet out))
  pub out_after : out' ≡ tidy_out sheet out

-- capi::dugg_admit
pub record DuggAdmit (site : Site) (flows : List Flow) (r : Answer) : Type 0 where
  pub answer : r ≡ told (admit_given (admit_answer site flows))

-- capi::dugg_admit_beside
pub record DuggAdmitBeside (site : Site) (flows : List Flow) (r : Answer) : Type 0 where
  pub answer : r ≡ told (beside_given (beside_answer site flows))

-- capi::dugg_words
pub record DuggWords (given : Answer) (call : ℕ) (out : List ℕ) (r : Answer) (out' : List ℕ) : Type 0 where
  pub answer : r ≡ told (written_given (written (call_said call given.number (get_or given.value 0 0) (get_or given.value 1 0) (get_or given.value 2 0)) out))
  pub out_after : out' ≡ laid_over (call_said call given.number (get_or given.value 0 0) (get_or given.value 1 0) (get_or given.value 2 0)) out

-- capi::dugg_why
pub record DuggWhy (site : Site) (out : List ℕ) (r : Answer) (out' : List ℕ) : Type 0 where
  pub answer : r ≡ told (written_given (why_written site out))
  pub out_after : out' ≡ why_out site out

-- capi::dugg_list
pub record DuggList (bytes : List ℕ) (out : List ℕ) (r : Answer) (out' : List ℕ) : Type 0 where
  pub answer : r ≡ told (written_given (written (listing bytes) out))
  pub out_after : out' ≡ laid_over (listing bytes) out

-- capi::dugg_version
pub record DuggVersion (r : Answer) : Type 0 where
  pub answer : r ≡ numbered 0 4 0 0
