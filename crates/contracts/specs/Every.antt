-- Every call of the product: for any arguments one answer and one content of what is lent meet its contract, and no other. None has a `requires`.
-- Made by tools/surface from the source.
use Rattle.std.specs.Prelude.{Bool, List, Result, ℕ, ◌≡◌}
use Rattle.admission.specs.declared.AdmitError.{AdmitError}
use Rattle.admission.specs.declared.BesideError.{BesideError}
use Rattle.checker.specs.declared.CheckError.{CheckError}
use Rattle.cleaning.specs.declared.Tidied.{Tidied}
use Rattle.contracts.specs.AdmissionSays.{AdmitBeside, AdmitCall, AdmitErrorFromFault, BesideErrorFromAdmitError, BesideErrorFromFault, Decide, DecideBeside}
use Rattle.contracts.specs.AdmissionSays.{ShareIn}
use Rattle.contracts.specs.CalltextSays.{CallText}
use Rattle.contracts.specs.CapiSays.{DuggAdmit, DuggAdmitBeside, DuggCarry, DuggChain, DuggChangeLoad, DuggCheck, DuggCheckWords, DuggClash, DuggClass}
use Rattle.contracts.specs.CapiSays.{DuggClearReach, DuggFault, DuggFind, DuggHeaviest, DuggLeast, DuggList, DuggLoadTest, DuggMend, DuggOverFull, DuggPlan}
use Rattle.contracts.specs.CapiSays.{DuggPlanWords, DuggReadPlan, DuggReadSheet, DuggReadSite, DuggRenumber, DuggSearch, DuggSetLoad, DuggSetReach, DuggShare}
use Rattle.contracts.specs.CapiSays.{DuggShareRepeated, DuggTidy, DuggToBytes, DuggToWords, DuggVersion, DuggWhy, DuggWords, DuggWritePlan, DuggWriteSheet}
use Rattle.contracts.specs.CapiSays.{DuggWriteSite}
use Rattle.contracts.specs.CheckerSays.{Check, CheckErrorFromFault}
use Rattle.contracts.specs.FinderSays.{Find, FindErrorFromFault, FindErrorFromSearchError, OverFullCall}
use Rattle.contracts.specs.FlowsheetSays.{ReadFlows}
use Rattle.contracts.specs.HandheldSays.{ChangeErrorFromFault, ChangeErrorFromPlanError, ChangeLoad, ChangedLoad}
use Rattle.contracts.specs.HeaviestSays.{Heaviest}
use Rattle.contracts.specs.JudgesSays.{Chain, InClass, Least, LoadTest}
use Rattle.contracts.specs.ListtextSays.{ListText}
use Rattle.contracts.specs.MenderSays.{Mend, MendErrorFromFault, MendErrorFromShort, MendOnly}
use Rattle.contracts.specs.NumberingSays.{Carry, CarryErrorFromRenumberError, Renumber, RenumberErrorFromFault}
use Rattle.contracts.specs.PlanfileSays.{PlanWriteErrorFromFault, ReadPlan, WritePlan}
use Rattle.contracts.specs.PlannerSays.{Plan, PlanErrorFromFault}
use Rattle.contracts.specs.ResizeSays.{SetBlocked, SetChannels, SetRule, SetSlots}
use Rattle.contracts.specs.RoomsSays.{RoomOf}
use Rattle.contracts.specs.SearchSays.{Search, SearchErrorFromFault}
use Rattle.contracts.specs.SharesSays.{DefaultRepeats, Share, ShareOf}
use Rattle.contracts.specs.SheetSays.{ReadSheet, WriteSheet}
use Rattle.contracts.specs.SiteSays.{RuleOk, SiteAccepted, SiteClash, SiteClashRows, SiteClearReach, SiteSetLoad, SiteSetReach, SiteZeros, SizeOk, Within}
use Rattle.contracts.specs.SitefileSays.{ReadSite, WriteSite}
use Rattle.contracts.specs.TidyingSays.{ChangesMade, Tidy}
use Rattle.contracts.specs.WhytextSays.{WhyText}
use Rattle.contracts.specs.WordtableSays.{CheckWords, FormErrorFromFault, PlanWords, ToBytes, ToWords}
use Rattle.finder.specs.declared.FindError.{FindError}
use Rattle.finder.specs.declared.OverFull.{OverFull}
use Rattle.finder.specs.declared.Way.{Way}
use Rattle.flowlist.specs.declared.Flow.{Flow}
use Rattle.flowlist.specs.declared.FlowList.{FlowList}
use Rattle.flowsheet.specs.declared.FlowsRead.{FlowsRead}
use Rattle.handheld.specs.declared.ChangeError.{ChangeError}
use Rattle.handheld.specs.declared.Changed.{Changed}
use Rattle.judges.specs.declared.ChainVerdict.{ChainVerdict}
use Rattle.judges.specs.declared.ClassVerdict.{ClassVerdict}
use Rattle.judges.specs.declared.LeastVerdict.{LeastVerdict}
use Rattle.judges.specs.declared.LoadVerdict.{LoadVerdict}
use Rattle.mender.specs.declared.MendError.{MendError}
use Rattle.numbering.specs.declared.CarryError.{CarryError}
use Rattle.numbering.specs.declared.RenumberError.{RenumberError}
use Rattle.numbering.specs.declared.Renumbered.{Renumbered}
use Rattle.planfile.specs.declared.PlanRead.{PlanRead}
use Rattle.planfile.specs.declared.PlanWriteError.{PlanWriteError}
use Rattle.planner.specs.declared.PlanError.{PlanError}
use Rattle.records.specs.declared.WriteError.{WriteError}
use Rattle.rooms.specs.declared.Room.{Room}
use Rattle.search.specs.declared.SearchError.{SearchError}
use Rattle.shares.specs.declared.Fragments.{Fragments}
use Rattle.shares.specs.declared.Repeats.{Repeats}
use Rattle.shares.specs.declared.ShareError.{ShareError}
use Rattle.shares.specs.declared.Slots.{Slots}
use Rattle.sheet.specs.declared.SheetRead.{SheetRead}
use Rattle.site.specs.declared.Edited.{Edited}
use Rattle.site.specs.declared.Fault.{Fault}
use Rattle.site.specs.declared.Site.{Site}
use Rattle.sitefile.specs.declared.SiteRead.{SiteRead}
use Rattle.standing.specs.declared.Short.{Short}
use Rattle.tidying.specs.declared.TidyError.{TidyError}
use Rattle.told.specs.declared.Answer.{Answer}
use Rattle.told.specs.declared.RenumberedC.{RenumberedC}
use Rattle.toldfiles.specs.declared.Blocked.{Blocked}
use Rattle.toldfiles.specs.declared.EditedSite.{EditedSite}
use Rattle.toldfiles.specs.declared.PlanReadC.{PlanReadC}
use Rattle.wordtable.specs.declared.FormError.{FormError}

pub record EveryCall : Type 0 where
  -- site::within
  pub within : (x : ℕ) (most : ℕ)
      → (r : Bool) × (Within x most r)
      × ((q : Bool) → Within x most q → (q ≡ r))
  -- site::size_ok
  pub size_ok : (cells : ℕ) (slots : ℕ) (channels : ℕ)
      → (r : Bool) × (SizeOk cells slots channels r)
      × ((q : Bool) → SizeOk cells slots channels q → (q ≡ r))
  -- site::rule_ok
  pub rule_ok : (rule : ℕ)
      → (r : Bool) × (RuleOk rule r)
      × ((q : Bool) → RuleOk rule q → (q ≡ r))
  -- site::Site::zeros
  pub site_zeros : (r : Site) × (SiteZeros r)
      × ((q : Site) → SiteZeros q → (q ≡ r))
  -- site::Site::accepted
  pub site_accepted : (self : Site)
      → (r : Result Unit Fault) × (SiteAccepted self r)
      × ((q : Result Unit Fault) → SiteAccepted self q → (q ≡ r))
  -- site::Site::clash_rows
  pub site_clash_rows : (self : Site)
      → (r : List ℕ) × (SiteClashRows self r)
      × ((q : List ℕ) → SiteClashRows self q → (q ≡ r))
  -- site::Site::clash
  pub site_clash : (self : Site) (a : ℕ) (b : ℕ)
      → (r : Result Bool Fault) × (SiteClash self a b r)
      × ((q : Result Bool Fault) → SiteClash self a b q → (q ≡ r))
  -- site::Site::set_load
  pub site_set_load : (self : Site) (cell : ℕ) (load : ℕ)
      → (r : Edited) × (SiteSetLoad self cell load r)
      × ((q : Edited) → SiteSetLoad self cell load q → (q ≡ r))
  -- site::Site::set_reach
  pub site_set_reach : (self : Site) (from : ℕ) (to : ℕ)
      → (r : Edited) × (SiteSetReach self from to r)
      × ((q : Edited) → SiteSetReach self from to q → (q ≡ r))
  -- site::Site::clear_reach
  pub site_clear_reach : (self : Site) (from : ℕ) (to : ℕ)
      → (r : Edited) × (SiteClearReach self from to r)
      × ((q : Edited) → SiteClearReach self from to q → (q ≡ r))
  -- resize::set_slots
  pub set_slots : (site : Site) (slots : ℕ)
      → (r : Edited) × (SetSlots site slots r)
      × ((q : Edited) → SetSlots site slots q → (q ≡ r))
  -- resize::set_channels
  pub set_channels : (site : Site) (channels : ℕ)
      → (r : Edited) × (SetChannels site channels r)
      × ((q : Edited) → SetChannels site channels q → (q ≡ r))
  -- resize::set_rule
  pub set_rule : (site : Site) (rule : ℕ)
      → (r : Edited) × (SetRule site rule r)
      × ((q : Edited) → SetRule site rule q → (q ≡ r))
  -- resize::set_blocked
  pub set_blocked : (site : Site) (blocked : List ℕ)
      → (r : Edited) × (SetBlocked site blocked r)
      × ((q : Edited) → SetBlocked site blocked q → (q ≡ r))
  -- judges::load_test
  pub load_test : (site : Site)
      → (r : Result LoadVerdict Fault) × (LoadTest site r)
      × ((q : Result LoadVerdict Fault) → LoadTest site q → (q ≡ r))
  -- judges::chain
  pub chain : (site : Site)
      → (r : Result ChainVerdict Fault) × (Chain site r)
      × ((q : Result ChainVerdict Fault) → Chain site q → (q ≡ r))
  -- judges::in_class
  pub in_class : (site : Site)
      → (r : Result ClassVerdict Fault) × (InClass site r)
      × ((q : Result ClassVerdict Fault) → InClass site q → (q ≡ r))
  -- judges::least
  pub least : (site : Site)
      → (r : Result LeastVerdict Fault) × (Least site r)
      × ((q : Result LeastVerdict Fault) → Least site q → (q ≡ r))
  -- planner::PlanError::from_fault
  pub plan_error_from_fault : (f : Fault)
      → (r : PlanError) × (PlanErrorFromFault f r)
      × ((q : PlanError) → PlanErrorFromFault f q → (q ≡ r))
  -- planner::plan
  pub plan : (site : Site) (table : List ℕ)
      → (r : Result Unit PlanError) × (table' : List ℕ) × (Plan site table r table')
      × ((q : Result Unit PlanError) (table'' : List ℕ) → Plan site table q table'' → (q ≡ r) × (table'' ≡ table'))
  -- handheld::ChangeError::from_fault
  pub change_error_from_fault : (f : Fault)
      → (r : ChangeError) × (ChangeErrorFromFault f r)
      × ((q : ChangeError) → ChangeErrorFromFault f q → (q ≡ r))
  -- handheld::ChangeError::from_plan_error
  pub change_error_from_plan_error : (p : PlanError)
      → (r : ChangeError) × (ChangeErrorFromPlanError p r)
      × ((q : ChangeError) → ChangeErrorFromPlanError p q → (q ≡ r))
  -- handheld::changed_load
  pub changed_load : (site : Site) (cell : ℕ) (load : ℕ) (table : List ℕ)
      → (r : Changed) × (table' : List ℕ) × (ChangedLoad site cell load table r table')
      × ((q : Changed) (table'' : List ℕ) → ChangedLoad site cell load table q table'' → (q ≡ r) × (table'' ≡ table'))
  -- handheld::change_load
  pub change_load : (site : Site) (cell : ℕ) (load : ℕ) (table : List ℕ)
      → (r : Result Unit ChangeError) × (site' : Site) × (table' : List ℕ) × (ChangeLoad site cell load table r site' table')
      × ((q : Result Unit ChangeError) (site'' : Site) (table'' : List ℕ) → ChangeLoad site cell load table q site'' table''
      → (q ≡ r) × (site'' ≡ site') × (table'' ≡ table'))
  -- checker::CheckError::from_fault
  pub check_error_from_fault : (f : Fault)
      → (r : CheckError) × (CheckErrorFromFault f r)
      × ((q : CheckError) → CheckErrorFromFault f q → (q ≡ r))
  -- checker::check
  pub check : (site : Site) (table : List ℕ)
      → (r : Result Unit CheckError) × (Check site table r)
      × ((q : Result Unit CheckError) → Check site table q → (q ≡ r))
  -- search::SearchError::from_fault
  pub search_error_from_fault : (f : Fault)
      → (r : SearchError) × (SearchErrorFromFault f r)
      × ((q : SearchError) → SearchErrorFromFault f q → (q ≡ r))
  -- search::search
  pub search : (site : Site) (limit : ℕ) (table : List ℕ)
      → (r : Result ℕ SearchError) × (table' : List ℕ) × (Search site limit table r table')
      × ((q : Result ℕ SearchError) (table'' : List ℕ) → Search site limit table q table'' → (q ≡ r) × (table'' ≡ table'))
  -- heaviest::heaviest
  pub heaviest : (site : Site)
      → (r : Result (ℕ × ℕ) Fault) × (Heaviest site r)
      × ((q : Result (ℕ × ℕ) Fault) → Heaviest site q → (q ≡ r))
  -- shares::share_of
  pub share_of : (slots : Slots) (burst : Fragments) (period : Slots) (repeats : Repeats)
      → (r : Result (Fragments × Fragments × Slots) ShareError) × (ShareOf slots burst period repeats r)
      × ((q : Result (Fragments × Fragments × Slots) ShareError) → ShareOf slots burst period repeats q → (q ≡ r))
  -- shares::default_repeats
  pub default_repeats : (r : Repeats) × (DefaultRepeats r)
      × ((q : Repeats) → DefaultRepeats q → (q ≡ r))
  -- shares::share
  pub share : (slots : Slots) (burst : Fragments) (period : Slots)
      → (r : Result (Fragments × Fragments × Slots) ShareError) × (Share slots burst period r)
      × ((q : Result (Fragments × Fragments × Slots) ShareError) → Share slots burst period q → (q ≡ r))
  -- mender::MendError::from_fault
  pub mend_error_from_fault : (f : Fault)
      → (r : MendError) × (MendErrorFromFault f r)
      × ((q : MendError) → MendErrorFromFault f q → (q ≡ r))
  -- mender::MendError::from_short
  pub mend_error_from_short : (s : Short)
      → (r : MendError) × (MendErrorFromShort s r)
      × ((q : MendError) → MendErrorFromShort s q → (q ≡ r))
  -- mender::mend
  pub mend : (site : Site) (table : List ℕ) (changes : List ℕ)
      → (r : Result ℕ MendError) × (table' : List ℕ) × (changes' : List ℕ) × (Mend site table changes r table' changes')
      × ((q : Result ℕ MendError) (table'' : List ℕ) (changes'' : List ℕ) → Mend site table changes q table'' changes''
      → (q ≡ r) × (table'' ≡ table') × (changes'' ≡ changes'))
  -- mender::mend_only
  pub mend_only : (site : Site) (table : List ℕ)
      → (r : Result ℕ MendError) × (table' : List ℕ) × (MendOnly site table r table')
      × ((q : Result ℕ MendError) (table'' : List ℕ) → MendOnly site table q table'' → (q ≡ r) × (table'' ≡ table'))
  -- numbering::RenumberError::from_fault
  pub renumber_error_from_fault : (f : Fault)
      → (r : RenumberError) × (RenumberErrorFromFault f r)
      × ((q : RenumberError) → RenumberErrorFromFault f q → (q ≡ r))
  -- numbering::CarryError::from_renumber_error
  pub carry_error_from_renumber_error : (x : RenumberError)
      → (r : CarryError) × (CarryErrorFromRenumberError x r)
      × ((q : CarryError) → CarryErrorFromRenumberError x q → (q ≡ r))
  -- numbering::renumber
  pub renumber : (site : Site)
      → (r : Renumbered) × (Renumber site r)
      × ((q : Renumbered) → Renumber site q → (q ≡ r))
  -- numbering::carry
  pub carry : (site : Site) (from : List ℕ) (to : List ℕ)
      → (r : Result Unit CarryError) × (to' : List ℕ) × (Carry site from to r to')
      × ((q : Result Unit CarryError) (to'' : List ℕ) → Carry site from to q to'' → (q ≡ r) × (to'' ≡ to'))
  -- wordtable::FormError::from_fault
  pub form_error_from_fault : (f : Fault)
      → (r : FormError) × (FormErrorFromFault f r)
      × ((q : FormError) → FormErrorFromFault f q → (q ≡ r))
  -- wordtable::plan_words
  pub plan_words : (site : Site) (words : List ℕ)
      → (r : Result Unit PlanError) × (words' : List ℕ) × (PlanWords site words r words')
      × ((q : Result Unit PlanError) (words'' : List ℕ) → PlanWords site words q words'' → (q ≡ r) × (words'' ≡ words'))
  -- wordtable::check_words
  pub check_words : (site : Site) (words : List ℕ)
      → (r : Result Unit CheckError) × (CheckWords site words r)
      × ((q : Result Unit CheckError) → CheckWords site words q → (q ≡ r))
  -- wordtable::to_words
  pub to_words : (site : Site) (table : List ℕ) (words : List ℕ)
      → (r : Result Unit FormError) × (words' : List ℕ) × (ToWords site table words r words')
      × ((q : Result Unit FormError) (words'' : List ℕ) → ToWords site table words q words'' → (q ≡ r) × (words'' ≡ words'))
  -- wordtable::to_bytes
  pub to_bytes : (site : Site) (words : List ℕ) (table : List ℕ)
      → (r : Result Unit FormError) × (table' : List ℕ) × (ToBytes site words table r table')
      × ((q : Result Unit FormError) (table'' : List ℕ) → ToBytes site words table q table'' → (q ≡ r) × (table'' ≡ table'))
  -- finder::FindError::from_fault
  pub find_error_from_fault : (f : Fault)
      → (r : FindError) × (FindErrorFromFault f r)
      × ((q : FindError) → FindErrorFromFault f q → (q ≡ r))
  -- finder::FindError::from_search_error
  pub find_error_from_search_error : (x : SearchError)
      → (r : FindError) × (FindErrorFromSearchError x r)
      × ((q : FindError) → FindErrorFromSearchError x q → (q ≡ r))
  -- finder::find
  pub find : (site : Site) (limit : ℕ) (table : List ℕ)
      → (r : Result Way FindError) × (table' : List ℕ) × (Find site limit table r table')
      × ((q : Result Way FindError) (table'' : List ℕ) → Find site limit table q table'' → (q ≡ r) × (table'' ≡ table'))
  -- finder::over_full
  pub over_full : (site : Site) (cells : ℕ)
      → (r : Result OverFull Fault) × (OverFullCall site cells r)
      × ((q : Result OverFull Fault) → OverFullCall site cells q → (q ≡ r))
  -- rooms::room_of
  pub room_of : (site : Site) (cell : ℕ)
      → (r : Result Room Fault) × (RoomOf site cell r)
      × ((q : Result Room Fault) → RoomOf site cell q → (q ≡ r))
  -- admission::AdmitError::from_fault
  pub admit_error_from_fault : (f : Fault)
      → (r : AdmitError) × (AdmitErrorFromFault f r)
      × ((q : AdmitError) → AdmitErrorFromFault f q → (q ≡ r))
  -- admission::BesideError::from_fault
  pub beside_error_from_fault : (f : Fault)
      → (r : BesideError) × (BesideErrorFromFault f r)
      × ((q : BesideError) → BesideErrorFromFault f q → (q ≡ r))
  -- admission::BesideError::from_admit_error
  pub beside_error_from_admit_error : (x : AdmitError)
      → (r : BesideError) × (BesideErrorFromAdmitError x r)
      × ((q : BesideError) → BesideErrorFromAdmitError x q → (q ≡ r))
  -- admission::share_in
  pub share_in : (slots : ℕ) (f : Flow)
      → (r : Result (Fragments × Fragments × Slots) ShareError) × (ShareIn slots f r)
      × ((q : Result (Fragments × Fragments × Slots) ShareError) → ShareIn slots f q → (q ≡ r))
  -- admission::decide
  pub decide : (site : Site) (l : FlowList) (count : ℕ)
      → (r : Result ℕ AdmitError) × (Decide site l count r)
      × ((q : Result ℕ AdmitError) → Decide site l count q → (q ≡ r))
  -- admission::decide_beside
  pub decide_beside : (site : Site) (l : FlowList) (count : ℕ)
      → (r : Result ℕ BesideError) × (DecideBeside site l count r)
      × ((q : Result ℕ BesideError) → DecideBeside site l count q → (q ≡ r))
  -- admission::admit
  pub admit : (site : Site) (flows : List Flow)
      → (r : Result ℕ AdmitError) × (AdmitCall site flows r)
      × ((q : Result ℕ AdmitError) → AdmitCall site flows q → (q ≡ r))
  -- admission::admit_beside
  pub admit_beside : (site : Site) (flows : List Flow)
      → (r : Result ℕ BesideError) × (AdmitBeside site flows r)
      × ((q : Result ℕ BesideError) → AdmitBeside site flows q → (q ≡ r))
  -- flowsheet::read_flows
  pub read_flows : (bytes : List ℕ)
      → (r : FlowsRead) × (ReadFlows bytes r)
      × ((q : FlowsRead) → ReadFlows bytes q → (q ≡ r))
  -- sitefile::read_site
  pub read_site : (bytes : List ℕ)
      → (r : SiteRead) × (ReadSite bytes r)
      × ((q : SiteRead) → ReadSite bytes q → (q ≡ r))
  -- sitefile::write_site
  pub write_site : (site : Site) (out : List ℕ)
      → (r : Result ℕ WriteError) × (out' : List ℕ) × (WriteSite site out r out')
      × ((q : Result ℕ WriteError) (out'' : List ℕ) → WriteSite site out q out'' → (q ≡ r) × (out'' ≡ out'))
  -- planfile::PlanWriteError::from_fault
  pub plan_write_error_from_fault : (f : Fault)
      → (r : PlanWriteError) × (PlanWriteErrorFromFault f r)
      × ((q : PlanWriteError) → PlanWriteErrorFromFault f q → (q ≡ r))
  -- planfile::read_plan
  pub read_plan : (bytes : List ℕ) (table : List ℕ)
      → (r : PlanRead) × (table' : List ℕ) × (ReadPlan bytes table r table')
      × ((q : PlanRead) (table'' : List ℕ) → ReadPlan bytes table q table'' → (q ≡ r) × (table'' ≡ table'))
  -- planfile::write_plan
  pub write_plan : (site : Site) (table : List ℕ) (out : List ℕ)
      → (r : Result ℕ PlanWriteError) × (out' : List ℕ) × (WritePlan site table out r out')
      × ((q : Result ℕ PlanWriteError) (out'' : List ℕ) → WritePlan site table out q out'' → (q ≡ r) × (out'' ≡ out'))
  -- sheet::read_sheet
  pub read_sheet : (bytes : List ℕ) (slots : ℕ) (channels : ℕ) (blocked : List ℕ) (rule : ℕ)
      → (r : SheetRead) × (ReadSheet bytes slots channels blocked rule r)
      × ((q : SheetRead) → ReadSheet bytes slots channels blocked rule q → (q ≡ r))
  -- sheet::write_sheet
  pub write_sheet : (site : Site) (out : List ℕ)
      → (r : Result ℕ WriteError) × (out' : List ℕ) × (WriteSheet site out r out')
      × ((q : Result ℕ WriteError) (out'' : List ℕ) → WriteSheet site out q out'' → (q ≡ r) × (out'' ≡ out'))
  -- tidying::tidy
  pub tidy : (sheet : List ℕ) (out : List ℕ)
      → (r : Result ℕ TidyError) × (out' : List ℕ) × (Tidy sheet out r out')
      × ((q : Result ℕ TidyError) (out'' : List ℕ) → Tidy sheet out q out'' → (q ≡ r) × (out'' ≡ out'))
  -- tidying::changes_made
  pub changes_made : (sheet : List ℕ) (kind : ℕ)
      → (r : Tidied) × (ChangesMade sheet kind r)
      × ((q : Tidied) → ChangesMade sheet kind q → (q ≡ r))
  -- calltext::call_text
  pub call_text : (call : ℕ) (number : ℕ) (a : ℕ) (b : ℕ) (c : ℕ) (out : List ℕ)
      → (r : Result ℕ WriteError) × (out' : List ℕ) × (CallText call number a b c out r out')
      × ((q : Result ℕ WriteError) (out'' : List ℕ) → CallText call number a b c out q out'' → (q ≡ r) × (out'' ≡ out'))
  -- whytext::why_text
  pub why_text : (site : Site) (out : List ℕ)
      → (r : Result ℕ WriteError) × (out' : List ℕ) × (WhyText site out r out')
      × ((q : Result ℕ WriteError) (out'' : List ℕ) → WhyText site out q out'' → (q ≡ r) × (out'' ≡ out'))
  -- listtext::list_text
  pub list_text : (bytes : List ℕ) (out : List ℕ)
      → (r : Result ℕ WriteError) × (out' : List ℕ) × (ListText bytes out r out')
      × ((q : Result ℕ WriteError) (out'' : List ℕ) → ListText bytes out q out'' → (q ≡ r) × (out'' ≡ out'))
  -- capi::dugg_fault
  pub dugg_fault : (site : Site)
      → (r : Answer) × (DuggFault site r)
      × ((q : Answer) → DuggFault site q → (q ≡ r))
  -- capi::dugg_clash
  pub dugg_clash : (site : Site) (a : ℕ) (b : ℕ)
      → (r : Answer) × (DuggClash site a b r)
      × ((q : Answer) → DuggClash site a b q → (q ≡ r))
  -- capi::dugg_set_load
  pub dugg_set_load : (site : Site) (cell : ℕ) (load : ℕ)
      → (r : EditedSite) × (DuggSetLoad site cell load r)
      × ((q : EditedSite) → DuggSetLoad site cell load q → (q ≡ r))
  -- capi::dugg_set_reach
  pub dugg_set_reach : (site : Site) (from : ℕ) (to : ℕ)
      → (r : EditedSite) × (DuggSetReach site from to r)
      × ((q : EditedSite) → DuggSetReach site from to q → (q ≡ r))
  -- capi::dugg_clear_reach
  pub dugg_clear_reach : (site : Site) (from : ℕ) (to : ℕ)
      → (r : EditedSite) × (DuggClearReach site from to r)
      × ((q : EditedSite) → DuggClearReach site from to q → (q ≡ r))
  -- capi::dugg_load_test
  pub dugg_load_test : (site : Site)
      → (r : Answer) × (DuggLoadTest site r)
      × ((q : Answer) → DuggLoadTest site q → (q ≡ r))
  -- capi::dugg_chain
  pub dugg_chain : (site : Site)
      → (r : Answer) × (DuggChain site r)
      × ((q : Answer) → DuggChain site q → (q ≡ r))
  -- capi::dugg_class
  pub dugg_class : (site : Site)
      → (r : Answer) × (DuggClass site r)
      × ((q : Answer) → DuggClass site q → (q ≡ r))
  -- capi::dugg_least
  pub dugg_least : (site : Site)
      → (r : Answer) × (DuggLeast site r)
      × ((q : Answer) → DuggLeast site q → (q ≡ r))
  -- capi::dugg_heaviest
  pub dugg_heaviest : (site : Site)
      → (r : Answer) × (DuggHeaviest site r)
      × ((q : Answer) → DuggHeaviest site q → (q ≡ r))
  -- capi::dugg_plan
  pub dugg_plan : (site : Site) (table : List ℕ)
      → (r : Answer) × (table' : List ℕ) × (DuggPlan site table r table')
      × ((q : Answer) (table'' : List ℕ) → DuggPlan site table q table'' → (q ≡ r) × (table'' ≡ table'))
  -- capi::dugg_search
  pub dugg_search : (site : Site) (limit : ℕ) (table : List ℕ)
      → (r : Answer) × (table' : List ℕ) × (DuggSearch site limit table r table')
      × ((q : Answer) (table'' : List ℕ) → DuggSearch site limit table q table'' → (q ≡ r) × (table'' ≡ table'))
  -- capi::dugg_find
  pub dugg_find : (site : Site) (limit : ℕ) (table : List ℕ)
      → (r : Answer) × (table' : List ℕ) × (DuggFind site limit table r table')
      × ((q : Answer) (table'' : List ℕ) → DuggFind site limit table q table'' → (q ≡ r) × (table'' ≡ table'))
  -- capi::dugg_over_full
  pub dugg_over_full : (site : Site) (cells : ℕ)
      → (r : Answer) × (DuggOverFull site cells r)
      × ((q : Answer) → DuggOverFull site cells q → (q ≡ r))
  -- capi::dugg_change_load
  pub dugg_change_load : (site : Site) (cell : ℕ) (load : ℕ) (table : List ℕ)
      → (r : Answer) × (site' : Site) × (table' : List ℕ) × (DuggChangeLoad site cell load table r site' table')
      × ((q : Answer) (site'' : Site) (table'' : List ℕ) → DuggChangeLoad site cell load table q site'' table''
      → (q ≡ r) × (site'' ≡ site') × (table'' ≡ table'))
  -- capi::dugg_check
  pub dugg_check : (site : Site) (table : List ℕ)
      → (r : Answer) × (DuggCheck site table r)
      × ((q : Answer) → DuggCheck site table q → (q ≡ r))
  -- capi::dugg_plan_words
  pub dugg_plan_words : (site : Site) (words : List ℕ)
      → (r : Answer) × (words' : List ℕ) × (DuggPlanWords site words r words')
      × ((q : Answer) (words'' : List ℕ) → DuggPlanWords site words q words'' → (q ≡ r) × (words'' ≡ words'))
  -- capi::dugg_check_words
  pub dugg_check_words : (site : Site) (words : List ℕ)
      → (r : Answer) × (DuggCheckWords site words r)
      × ((q : Answer) → DuggCheckWords site words q → (q ≡ r))
  -- capi::dugg_to_words
  pub dugg_to_words : (site : Site) (table : List ℕ) (words : List ℕ)
      → (r : Answer) × (words' : List ℕ) × (DuggToWords site table words r words')
      × ((q : Answer) (words'' : List ℕ) → DuggToWords site table words q words'' → (q ≡ r) × (words'' ≡ words'))
  -- capi::dugg_to_bytes
  pub dugg_to_bytes : (site : Site) (words : List ℕ) (table : List ℕ)
      → (r : Answer) × (table' : List ℕ) × (DuggToBytes site words table r table')
      × ((q : Answer) (table'' : List ℕ) → DuggToBytes site words table q table'' → (q ≡ r) × (table'' ≡ table'))
  -- capi::dugg_mend
  pub dugg_mend : (site : Site) (table : List ℕ) (changes : List ℕ)
      → (r : Answer) × (table' : List ℕ) × (changes' : List ℕ) × (DuggMend site table changes r table' changes')
      × ((q : Answer) (table'' : List ℕ) (changes'' : List ℕ) → DuggMend site table changes q table'' changes''
      → (q ≡ r) × (table'' ≡ table') × (changes'' ≡ changes'))
  -- capi::dugg_renumber
  pub dugg_renumber : (site : Site)
      → (r : RenumberedC) × (DuggRenumber site r)
      × ((q : RenumberedC) → DuggRenumber site q → (q ≡ r))
  -- capi::dugg_carry
  pub dugg_carry : (site : Site) (from : List ℕ) (to : List ℕ)
      → (r : Answer) × (to' : List ℕ) × (DuggCarry site from to r to')
      × ((q : Answer) (to'' : List ℕ) → DuggCarry site from to q to'' → (q ≡ r) × (to'' ≡ to'))
  -- capi::dugg_share
  pub dugg_share : (slots : ℕ) (burst : ℕ) (period : ℕ)
      → (r : Answer) × (DuggShare slots burst period r)
      × ((q : Answer) → DuggShare slots burst period q → (q ≡ r))
  -- capi::dugg_share_repeated
  pub dugg_share_repeated : (slots : ℕ) (burst : ℕ) (period : ℕ) (repeats : ℕ)
      → (r : Answer) × (DuggShareRepeated slots burst period repeats r)
      × ((q : Answer) → DuggShareRepeated slots burst period repeats q → (q ≡ r))
  -- capi::dugg_read_site
  pub dugg_read_site : (bytes : List ℕ)
      → (r : EditedSite) × (DuggReadSite bytes r)
      × ((q : EditedSite) → DuggReadSite bytes q → (q ≡ r))
  -- capi::dugg_write_site
  pub dugg_write_site : (site : Site) (out : List ℕ)
      → (r : Answer) × (out' : List ℕ) × (DuggWriteSite site out r out')
      × ((q : Answer) (out'' : List ℕ) → DuggWriteSite site out q out'' → (q ≡ r) × (out'' ≡ out'))
  -- capi::dugg_read_plan
  pub dugg_read_plan : (bytes : List ℕ) (table : List ℕ)
      → (r : PlanReadC) × (table' : List ℕ) × (DuggReadPlan bytes table r table')
      × ((q : PlanReadC) (table'' : List ℕ) → DuggReadPlan bytes table q table'' → (q ≡ r) × (table'' ≡ table'))
  -- capi::dugg_write_plan
  pub dugg_write_plan : (site : Site) (table : List ℕ) (out : List ℕ)
      → (r : Answer) × (out' : List ℕ) × (DuggWritePlan site table out r out')
      × ((q : Answer) (out'' : List ℕ) → DuggWritePlan site table out q out'' → (q ≡ r) × (out'' ≡ out'))
  -- capi::dugg_read_sheet
  pub dugg_read_sheet : (bytes : List ℕ) (slots : ℕ) (channels : ℕ) (blocked : Blocked) (rule : ℕ)
      → (r : EditedSite) × (DuggReadSheet bytes slots channels blocked rule r)
      × ((q : EditedSite) → DuggReadSheet bytes slots channels blocked rule q → (q ≡ r))
  -- capi::dugg_write_sheet
  pub dugg_write_sheet : (site : Site) (out : List ℕ)
      → (r : Answer) × (out' : List ℕ) × (DuggWriteSheet site out r out')
      × ((q : Answer) (out'' : List ℕ) → DuggWriteSheet site out q out'' → (q ≡ r) × (out'' ≡ out'))
  -- capi::dugg_tidy
  pub dugg_tidy : (sheet : List ℕ) (out : List ℕ)
      → (r : Answer) × (out' : List ℕ) × (DuggTidy sheet out r out')
      × ((q : Answer) (out'' : List ℕ) → DuggTidy sheet out q out'' → (q ≡ r) × (out'' ≡ out'))
  -- capi::dugg_admit
  pub dugg_admit : (site : Site) (flows : List Flow)
      → (r : Answer) × (DuggAdmit site flows r)
      × ((q : Answer) → DuggAdmit site flows q → (q ≡ r))
  -- capi::dugg_admit_beside
  pub dugg_admit_beside : (site : Site) (flows : List Flow)
      → (r : Answer) × (DuggAdmitBeside site flows r)
      × ((q : Answer) → DuggAdmitBeside site flows q → (q ≡ r))
  -- capi::dugg_words
  pub dugg_words : (given : Answer) (call : ℕ) (out : List ℕ)
      → (r : Answer) × (out' : List ℕ) × (DuggWords given call out r out')
      × ((q : Answer) (out'' : List ℕ) → DuggWords given call out q out'' → (q ≡ r) × (out'' ≡ out'))
  -- capi::dugg_why
  pub dugg_why : (site : Site) (out : List ℕ)
      → (r : Answer) × (out' : List ℕ) × (DuggWhy site out r out')
      × ((q : Answer) (out'' : List ℕ) → DuggWhy site out q out'' → (q ≡ r) × (out'' ≡ out'))
  -- capi::dugg_list
  pub dugg_list : (bytes : List ℕ) (out : List ℕ)
      → (r : Answer) × (out' : List ℕ) × (DuggList bytes out r out')
      × ((q : Answer) (out'' : List ℕ) → DuggList bytes out q out'' → (q ≡ r) × (out'' ≡ out'))
  -- capi::dugg_version
  pub dugg_version : (r : Answer) × (DuggVersion r)
      × ((q : Answer) → DuggVersion q → (q ≡ r))
