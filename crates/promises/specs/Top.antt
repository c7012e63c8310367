-- The top of the product: the three demands on it, each a record with a field for each of its sentences, proved in proofs/Top.antt.
-- A premise `Plan site lent answer left` says that `plan`, called with the site and a lent table, answered so and left that in the table. It is the
-- function's contract, copied from the source by tools/surface (crate `contracts`), and so with every other call. The words of the demands stand in
-- specs/Demands.antt. `plan_given`, `check_given` .. give document 01's number and values for an answer; `done` is number 0.
use Rattle.std.specs.Prelude.{◌≡◌, ◌↔◌, List, [], ◌∷◌, ◌++◌, ℕ, ◌≤◌, length, take, drop, Result}
use Rattle.site.specs.Record.{size}
use Rattle.site.specs.declared.Site.{Site}
use Rattle.judges.specs.Given.{load_given, chain_given, class_given}
use Rattle.judges.specs.declared.LoadVerdict.{LoadVerdict}
use Rattle.site.specs.declared.Fault.{Fault}
use Rattle.judges.specs.declared.ChainVerdict.{ChainVerdict}
use Rattle.judges.specs.declared.ClassVerdict.{ClassVerdict}
use Rattle.planner.specs.Plan.{table_of}
use Rattle.planner.specs.Given.{plan_given}
use Rattle.planner.specs.declared.PlanError.{PlanError}
use Rattle.checker.specs.Given.{check_given}
use Rattle.checker.specs.declared.CheckError.{CheckError}
use Rattle.records.specs.Bytes.{Bytes}
use Rattle.records.specs.Given.{read_given, written_given}
use Rattle.records.specs.declared.WriteError.{WriteError}
use Rattle.site.specs.Held.{Held}
use Rattle.sitefile.specs.declared.SiteRead.{SiteRead}
use Rattle.planfile.specs.Given.{plan_written_given}
use Rattle.planfile.specs.declared.PlanRead.{PlanRead}
use Rattle.planfile.specs.declared.PlanWriteError.{PlanWriteError}
use Rattle.contracts.specs.Every.{EveryCall}
use Rattle.contracts.specs.JudgesSays.{LoadTest, Chain, InClass}
use Rattle.contracts.specs.PlannerSays.{Plan}
use Rattle.contracts.specs.CheckerSays.{Check}
use Rattle.contracts.specs.SitefileSays.{ReadSite, WriteSite}
use Rattle.contracts.specs.PlanfileSays.{ReadPlan, WritePlan}
use Rattle.demanded.specs.Numbers.{done, done_with, run_given}
use Rattle.demanded.specs.Demands.{Accepted, LongEnough, DefinitionOne, Easier, ChainedSite, NestedSite, ClaimOne, greedy_schedule}
use Rattle.promises.specs.Untouched.{IdleIfNoRoom, Untouched, UntouchedInC}

-- That every function ends, and stays within what it is lent, is the prover's own. That no call of the product asks anything of its caller (a `requires`) is
-- held by tools/surface --check. A refusal carries its number and place: that is the type of its answer; when it is which, docs/PROMISES.md maps.
pub record DemandOne : Type 0 where
  -- Every call answers, for any file, record or table, with nothing checked beforehand by the caller: one answer and memory meet its contract, and no other
  pub every_call_answers : EveryCall
  -- The planner's no-room refusal leaves the site's part of the lent table idle
  pub no_room_idle : IdleIfNoRoom
  -- every other refusal leaves lent memory untouched
  pub others_untouched : Untouched
  pub others_untouched_in_c : UntouchedInC

pub record DemandTwo : Type 0 where
  -- The plan equals the paper's greedy schedule, mark for mark: number, table, and the bytes past the site's part as they were
  pub plan_is_figure_one : (site : Site) → Accepted site
      → (lent left : List ℕ) (answer : Result Unit PlanError) → LongEnough site lent → Plan site lent answer left
      → (plan_given answer ≡ run_given (greedy_schedule site)) × (left ≡ table_of (size site) (greedy_schedule site) ++ drop (size site) lent)
  -- The checker says yes exactly to the paper's valid schedules.
  pub yes_is_valid : (site : Site) (table : List ℕ) (answer : Result Unit CheckError) → Check site table answer
      → check_given answer ≡ done ↔ ((Accepted site) × (LongEnough site table) × (DefinitionOne site table))
  -- The load test is the paper's.
  pub load_test_is_claim_one : (site : Site) (answer : Result LoadVerdict Fault) → LoadTest site answer
      → load_given answer ≡ done ↔ ((Accepted site) × (ClaimOne site))
  -- A site written and read back is the same site: `Held` is what the types of the code give of a record
  pub written_then_read : (site : Site) → Held site
      → (out out' : List ℕ) (wrote : Result ℕ WriteError) → WriteSite site out wrote out' → (n : ℕ) → written_given wrote ≡ done_with (n ∷ [])
      → (read : SiteRead) → ReadSite (take n out') read → (read_given read.answer ≡ done) × (read.site ≡ site)
  -- an accepted file written again is the same bytes: a site file
  pub read_then_written : (file : List ℕ) → Bytes file
      → (read : SiteRead) → ReadSite file read → read_given read.answer ≡ done
      → (out out' : List ℕ) (wrote : Result ℕ WriteError) → length file ≤ length out → WriteSite read.site out wrote out'
      → (written_given wrote ≡ done_with (length file ∷ [])) × (out' ≡ file ++ drop (length file) out)
  -- and a plan file, beside any site of the size that it states
  pub plan_read_then_written : (file : List ℕ) → Bytes file
      → (lent left : List ℕ) (read : PlanRead) → ReadPlan file lent read left → read_given read.answer ≡ done
      → (site : Site) → Accepted site → site.cells ≡ read.cells → site.slots ≡ read.slots → site.channels ≡ read.channels
      → (out out' : List ℕ) (wrote : Result ℕ PlanWriteError) → length file ≤ length out → WritePlan site left out wrote out'
      → (plan_written_given wrote ≡ done_with (length file ∷ [])) × (out' ≡ file ++ drop (length file) out)

pub record DemandThree : Type 0 where
  -- With a long enough table: take two accepted sites with the same cells, the second with at least as many channel-slots in all, no greater load in any
  -- cell, no clash the first lacks, and nested, W9's wider class. If any valid plan of the first exists, however found, the planner plans the second.
  -- The first need not even be accepted.
  pub planned_if_any_can : (first second : Site)
      → Accepted second → Easier second first → NestedSite second
      → (found : List ℕ) → DefinitionOne first found
      → (lent left : List ℕ) (answer : Result Unit PlanError) → LongEnough second lent → Plan second lent answer left
      → (plan_given answer ≡ done) × (DefinitionOne second left)
  -- On a nested site the load test holds exactly when the planner plans
  pub nested_exactly : (site : Site) → NestedSite site
      → (verdict : Result LoadVerdict Fault) → LoadTest site verdict
      → (lent left : List ℕ) (answer : Result Unit PlanError) → LongEnough site lent → Plan site lent answer left
      → load_given verdict ≡ done ↔ plan_given answer ≡ done
  -- on any site a load test that holds means a plan
  pub holds_then_planned : (site : Site) (verdict : Result LoadVerdict Fault) → LoadTest site verdict → load_given verdict ≡ done
      → (lent left : List ℕ) (answer : Result Unit PlanError) → LongEnough site lent → Plan site lent answer left
      → (plan_given answer ≡ done) × (DefinitionOne site left)
  -- Each chained site is nested, so that all this holds of it
  pub chained_is_nested : (site : Site) → ChainedSite site → NestedSite site
  -- whether a site is chained, and whether it is nested, is what the judges say
  pub judge_says : (site : Site) (verdict : Result ChainVerdict Fault) → Chain site verdict
      → chain_given verdict ≡ done ↔ ((Accepted site) × (ChainedSite site))
  pub class_says : (site : Site) (verdict : Result ClassVerdict Fault) → InClass site verdict
      → class_given verdict ≡ done ↔ ((Accepted site) × (NestedSite site))
