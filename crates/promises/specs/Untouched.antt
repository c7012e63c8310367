-- Demand 1, what a refusal leaves in lent memory, call by call: over the contracts of all calls that are lent memory, in Rattle and in C.
-- x is what a lent x holds when the call begins, x' what it holds when it ends, and r what the call answers.
use Rattle.std.specs.Prelude.{◌≡◌, List, ◌++◌, ℕ, drop, replicate, Result}
use Rattle.site.specs.Record.{positions, size}
use Rattle.site.specs.declared.Site.{Site}
use Rattle.planner.specs.Given.{plan_given}
use Rattle.planner.specs.declared.PlanError.{PlanError}
use Rattle.handheld.specs.Given.{change_given}
use Rattle.handheld.specs.declared.ChangeError.{ChangeError}
use Rattle.handheld.specs.declared.Changed.{Changed}
use Rattle.wordtable.specs.Given.{form_given}
use Rattle.wordtable.specs.declared.FormError.{FormError}
use Rattle.mender.specs.Given.{mend_given}
use Rattle.mender.specs.declared.MendError.{MendError}
use Rattle.numbering.specs.Given.{carry_given}
use Rattle.numbering.specs.declared.CarryError.{CarryError}
use Rattle.search.specs.Given.{search_given}
use Rattle.search.specs.declared.SearchError.{SearchError}
use Rattle.finder.specs.Given.{find_given}
use Rattle.finder.specs.declared.Way.{Way}
use Rattle.finder.specs.declared.FindError.{FindError}
use Rattle.records.specs.Given.{read_given, written_given}
use Rattle.records.specs.declared.WriteError.{WriteError}
use Rattle.planfile.specs.Given.{plan_written_given}
use Rattle.planfile.specs.declared.PlanRead.{PlanRead}
use Rattle.planfile.specs.declared.PlanWriteError.{PlanWriteError}
use Rattle.tidying.specs.Given.{tidy_given}
use Rattle.tidying.specs.declared.TidyError.{TidyError}
use Rattle.told.specs.declared.Answer.{Answer}
use Rattle.toldfiles.specs.declared.PlanReadC.{PlanReadC}
use Rattle.contracts.specs.PlannerSays.{Plan}
use Rattle.contracts.specs.HandheldSays.{ChangedLoad, ChangeLoad}
use Rattle.contracts.specs.WordtableSays.{PlanWords, ToWords, ToBytes}
use Rattle.contracts.specs.MenderSays.{Mend, MendOnly}
use Rattle.contracts.specs.NumberingSays.{Carry}
use Rattle.contracts.specs.SearchSays.{Search}
use Rattle.contracts.specs.FinderSays.{Find}
use Rattle.contracts.specs.SitefileSays.{WriteSite}
use Rattle.contracts.specs.PlanfileSays.{ReadPlan, WritePlan}
use Rattle.contracts.specs.SheetSays.{WriteSheet}
use Rattle.contracts.specs.TidyingSays.{Tidy}
use Rattle.contracts.specs.CalltextSays.{CallText}
use Rattle.contracts.specs.WhytextSays.{WhyText}
use Rattle.contracts.specs.ListtextSays.{ListText}
use Rattle.contracts.specs.CapiSays.{
  DuggPlan,
  DuggChangeLoad,
  DuggPlanWords,
  DuggToWords,
  DuggToBytes,
  DuggMend,
  DuggCarry,
  DuggSearch,
  DuggFind,
  DuggWriteSite,
  DuggReadPlan,
  DuggWritePlan,
  DuggWriteSheet,
  DuggTidy,
  DuggWords,
  DuggWhy,
  DuggList,
}

-- the first n are 0, and the others as they were
abbrev pub Idle : ℕ → List ℕ → List ℕ → Type 0
Idle n before after = after ≡ replicate n 0 ++ drop n before

-- a refusal: any number but 0; and one that is not the planner's, 5, "planner finds no room"
abbrev pub Refused : ℕ → Type 0
Refused number = number ≡ 0 → ⊥

abbrev pub RefusedElse : ℕ → Type 0
RefusedElse number = (Refused number) × (number ≡ 5 → ⊥)

-- The planner's no-room refusal leaves the site's part of the lent table idle; W6: "5 leaves N words of 0"; W14: "5 keeps the edit and leaves the site's part
-- idle, lower rows included". That it keeps the edit is in specs/Handheld.antt
pub record IdleIfNoRoom : Type 0 where
  pub plan : (site : Site) (table table' : List ℕ) (r : Result Unit PlanError) → Plan site table r table'
      → (plan_given r).number ≡ 5 → Idle (size site) table table'
  pub plan_words_holds : (site : Site) (words words' : List ℕ) (r : Result Unit PlanError) → PlanWords site words r words'
      → (plan_given r).number ≡ 5 → Idle (positions site) words words'
  pub change_load_holds : (site site' : Site) (cell load : ℕ) (table table' : List ℕ) (r : Result Unit ChangeError)
      → ChangeLoad site cell load table r site' table'
      → (change_given r).number ≡ 5 → Idle (size site) table table'
  pub changed_load_holds : (site : Site) (cell load : ℕ) (table table' : List ℕ) (r : Changed) → ChangedLoad site cell load table r table'
      → (change_given r.answer).number ≡ 5 → Idle (size site) table table'
  pub plan_in_c : (site : Site) (table table' : List ℕ) (r : Answer) → DuggPlan site table r table' → r.number ≡ 5 → Idle (size site) table table'
  pub change_load_in_c : (site site' : Site) (cell load : ℕ) (table table' : List ℕ) (r : Answer) → DuggChangeLoad site cell load table r site' table'
      → r.number ≡ 5 → Idle (size site) table table'
  pub plan_words_in_c : (site : Site) (words words' : List ℕ) (r : Answer) → DuggPlanWords site words r words'
      → r.number ≡ 5 → Idle (positions site) words words'

-- every other refusal leaves lent memory untouched
pub record Untouched : Type 0 where
  pub plan : (site : Site) (table table' : List ℕ) (r : Result Unit PlanError) → Plan site table r table' → RefusedElse (plan_given r).number → table' ≡ table
  pub change_load_holds : (site site' : Site) (cell load : ℕ) (table table' : List ℕ) (r : Result Unit ChangeError)
      → ChangeLoad site cell load table r site' table'
      → RefusedElse (change_given r).number → (site' ≡ site) × (table' ≡ table)
  pub changed_load_holds : (site : Site) (cell load : ℕ) (table table' : List ℕ) (r : Changed) → ChangedLoad site cell load table r table'
      → RefusedElse (change_given r.answer).number → (r.site ≡ site) × (table' ≡ table)
  pub plan_words_holds : (site : Site) (words words' : List ℕ) (r : Result Unit PlanError) → PlanWords site words r words'
      → RefusedElse (plan_given r).number → words' ≡ words
  pub to_words_holds : (site : Site) (table words words' : List ℕ) (r : Result Unit FormError) → ToWords site table words r words'
      → Refused (form_given r).number → words' ≡ words
  pub to_bytes_holds : (site : Site) (words table table' : List ℕ) (r : Result Unit FormError) → ToBytes site words table r table'
      → Refused (form_given r).number → table' ≡ table
  pub mend : (site : Site) (table changes table' changes' : List ℕ) (r : Result ℕ MendError) → Mend site table changes r table' changes'
      → Refused (mend_given r).number → (table' ≡ table) × (changes' ≡ changes)
  pub mend_only_holds : (site : Site) (table table' : List ℕ) (r : Result ℕ MendError) → MendOnly site table r table' → Refused (mend_given r).number
      → table' ≡ table
  pub carry : (site : Site) (from to to' : List ℕ) (r : Result Unit CarryError) → Carry site from to r to' → Refused (carry_given r).number → to' ≡ to
  pub search : (site : Site) (limit : ℕ) (table table' : List ℕ) (r : Result ℕ SearchError) → Search site limit table r table'
      → Refused (search_given r).number → table' ≡ table
  pub find : (site : Site) (limit : ℕ) (table table' : List ℕ) (r : Result Way FindError) → Find site limit table r table'
      → Refused (find_given r).number → table' ≡ table
  pub write_site_holds : (site : Site) (out out' : List ℕ) (r : Result ℕ WriteError) → WriteSite site out r out' → Refused (written_given r).number → out' ≡ out
  pub read_plan_holds : (bytes table table' : List ℕ) (r : PlanRead) → ReadPlan bytes table r table' → Refused (read_given r.answer).number → table' ≡ table
  pub write_plan_holds : (site : Site) (table out out' : List ℕ) (r : Result ℕ PlanWriteError) → WritePlan site table out r out'
      → Refused (plan_written_given r).number → out' ≡ out
  pub write_sheet_holds : (site : Site) (out out' : List ℕ) (r : Result ℕ WriteError) → WriteSheet site out r out' → Refused (written_given r).number
      → out' ≡ out
  pub tidy : (sheet out out' : List ℕ) (r : Result ℕ TidyError) → Tidy sheet out r out' → Refused (tidy_given r).number → out' ≡ out
  pub call_text_holds : (call number a b c : ℕ) (out out' : List ℕ) (r : Result ℕ WriteError) → CallText call number a b c out r out'
      → Refused (written_given r).number → out' ≡ out
  pub why_text_holds : (site : Site) (out out' : List ℕ) (r : Result ℕ WriteError) → WhyText site out r out' → Refused (written_given r).number → out' ≡ out
  pub list_text_holds : (bytes out out' : List ℕ) (r : Result ℕ WriteError) → ListText bytes out r out' → Refused (written_given r).number → out' ≡ out

pub record UntouchedInC : Type 0 where
  pub plan : (site : Site) (table table' : List ℕ) (r : Answer) → DuggPlan site table r table' → RefusedElse r.number → table' ≡ table
  pub change_load_holds : (site site' : Site) (cell load : ℕ) (table table' : List ℕ) (r : Answer) → DuggChangeLoad site cell load table r site' table'
      → RefusedElse r.number → (site' ≡ site) × (table' ≡ table)
  pub plan_words_holds : (site : Site) (words words' : List ℕ) (r : Answer) → DuggPlanWords site words r words' → RefusedElse r.number → words' ≡ words
  pub to_words_holds : (site : Site) (table words words' : List ℕ) (r : Answer) → DuggToWords site table words r words' → Refused r.number → words' ≡ words
  pub to_bytes_holds : (site : Site) (words table table' : List ℕ) (r : Answer) → DuggToBytes site words table r table' → Refused r.number → table' ≡ table
  pub mend : (site : Site) (table changes table' changes' : List ℕ) (r : Answer) → DuggMend site table changes r table' changes'
      → Refused r.number → (table' ≡ table) × (changes' ≡ changes)
  pub carry : (site : Site) (from to to' : List ℕ) (r : Answer) → DuggCarry site from to r to' → Refused r.number → to' ≡ to
  pub search : (site : Site) (limit : ℕ) (table table' : List ℕ) (r : Answer) → DuggSearch site limit table r table' → Refused r.number → table' ≡ table
  pub find : (site : Site) (limit : ℕ) (table table' : List ℕ) (r : Answer) → DuggFind site limit table r table' → Refused r.number → table' ≡ table
  pub write_site_holds : (site : Site) (out out' : List ℕ) (r : Answer) → DuggWriteSite site out r out' → Refused r.number → out' ≡ out
  pub read_plan_holds : (bytes table table' : List ℕ) (r : PlanReadC) → DuggReadPlan bytes table r table' → Refused r.answer.number → table' ≡ table
  pub write_plan_holds : (site : Site) (table out out' : List ℕ) (r : Answer) → DuggWritePlan site table out r out' → Refused r.number → out' ≡ out
  pub write_sheet_holds : (site : Site) (out out' : List ℕ) (r : Answer) → DuggWriteSheet site out r out' → Refused r.number → out' ≡ out
  pub tidy : (sheet out out' : List ℕ) (r : Answer) → DuggTidy sheet out r out' → Refused r.number → out' ≡ out
  pub words : (given : Answer) (call : ℕ) (out out' : List ℕ) (r : Answer) → DuggWords given call out r out' → Refused r.number → out' ≡ out
  pub why : (site : Site) (out out' : List ℕ) (r : Answer) → DuggWhy site out r out' → Refused r.number → out' ≡ out
  pub list : (bytes out out' : List ℕ) (r : Answer) → DuggList bytes out r out' → Refused r.number → out' ≡ out
