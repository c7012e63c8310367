-- The three demands, proved: a contract says that the answer is the one that its definition gives, and each demand's own file has the theorem on that.
-- Assumes nothing.
use mathlib.Core.Path.{◌≡◌, ap, ◌∙◌}
use mathlib.Core.List.{List, [], ◌∷◌}
use mathlib.Core.Logic.{◌↔◌}
use Prim.Native.Nat.{ℕ}
use Rattle.std.specs.Prelude.{Result}
use Rattle.site.specs.declared.Site.{Site}
use Rattle.judges.specs.Judges.{load_answer}
use Rattle.judges.specs.Given.{load_given}
use Rattle.judges.specs.declared.LoadVerdict.{LoadVerdict}
use Rattle.site.specs.declared.Fault.{Fault}
use Rattle.planner.specs.Plan.{plan_answer, plan_table}
use Rattle.planner.specs.Given.{plan_given}
use Rattle.planner.specs.declared.PlanError.{PlanError}
use Rattle.planner.proofs.Meaning.{done-means}
use Rattle.records.specs.Given.{read_given, written_given}
use Rattle.sitefile.specs.Read.{read_site}
use Rattle.sitefile.specs.Write.{site_written}
use Rattle.demanded.specs.Numbers.{done, done_with}
use Rattle.demanded.specs.Demands.{Accepted, LongEnough, DefinitionOne, Easier, ChainedSite, NestedSite}
use Rattle.promises.specs.Top.{DemandOne, DemandTwo, DemandThree}
use Rattle.planfile.specs.Read.{read_plan}
use Rattle.planfile.specs.declared.PlanRead.{PlanRead}
use Rattle.contracts.specs.JudgesSays as judges
use Rattle.contracts.specs.PlannerSays.{Plan}
use Rattle.contracts.proofs.Every.{every_call}
use Rattle.promises.proofs.Untouched.{idle-if-no-room, untouched, untouched-in-c}
use Rattle.demanded.proofs.Own.{nested-site, chained_is_nested, claim-one, judge-is-chained-site, judge-is-nested-site}
use Rattle.demanded.proofs.Numbers.{accepted-number, plan-number}
use Rattle.demanded.proofs.Demand2.{plan-is-figure, valid-is-definition-one, check-is-valid, load-is-C1}
use Rattle.demanded.proofs.Demand2.{planned-checks}
use Rattle.demanded.proofs.Demand3.{demand-three-sites, nested-exact, holds-plans}
use Rattle.promises.proofs.Files.{site-written-read, site-read-written, plan-read-written}

-- what the planner leaves when it is done meets Definition 1
pub left-valid : (s : Site) (lent : List ℕ) → plan_given (plan_answer s lent) ≡ done → DefinitionOne s (plan_table s lent)
left-valid s lent e = (valid-is-definition-one s (plan_table s lent)).0 ((check-is-valid s (plan_table s lent)).0 (planned-checks s lent e)).2

-- a record that the planner plans has no fault
planned-accepted : (s : Site) (lent : List ℕ) → plan_given (plan_answer s lent) ≡ done → Accepted s
planned-accepted s lent e = (accepted-number s).1 ((done-means s lent).0 ((plan-number s lent).0 e)).0

nested-then : (s : Site) → NestedSite s → (lent : List ℕ) → LongEnough s lent → Accepted s
    → load_given (load_answer s) ≡ done ↔ plan_given (plan_answer s lent) ≡ done
nested-then s nested lent long ok = nested-exact s ((judge-is-nested-site s).1 (ok, nested)) lent long

-- ---- the demands

pub demand-one : DemandOne
demand-one = record {
  every_call_answers = every_call;
  no_room_idle = idle-if-no-room;
  others_untouched = untouched;
  others_untouched_in_c = untouched-in-c;
}

pub demand-two : DemandTwo
demand-two = record {
  plan_is_figure_one = λ site ok lent left answer long says. rw (says.answer, says.table_after) (plan-is-figure site lent ok long);
  yes_is_valid = λ site table answer says. rw says.answer (
    λ e. let v = (check-is-valid site table).0 e in (v.0, v.1, (valid-is-definition-one site table).0 v.2),
    λ v. (check-is-valid site table).1 (v.0, v.1, (valid-is-definition-one site table).1 v.2),
  );
  load_test_is_claim_one = λ site answer says. rw says.answer (
    λ e. let h = (load-is-C1 site).0 e in (h.0, (claim-one site).1 h.1),
    λ h. (load-is-C1 site).1 (h.0, (claim-one site).0 h.1),
  );
  written_then_read = λ site held out out' wrote w n e read r.
      let ok : written_given (site_written site out) ≡ done_with (n ∷ []) = rw w.answer at e in
      rw (r.answer, w.out_after) (site-written-read site held out n ok);
  read_then_written = λ file bytes read r ok out out' wrote fits w.
      let is : read_given (read_site file).answer ≡ done = rw r.answer at ok in
      rw (w.answer, w.out_after, r.answer) (site-read-written file bytes is out fits);
  plan_read_then_written = λ file bytes lent left read r ok site fine i o f out out' wrote fits w.
      let is : read_given (read_plan file lent).answer ≡ done = rw r.answer at ok in
      let cells : site.cells ≡ (read_plan file lent).cells = i ∙ ap (λ (p : PlanRead). p.cells) r.answer in
      let slots : site.slots ≡ (read_plan file lent).slots = o ∙ ap (λ (p : PlanRead). p.slots) r.answer in
      let channels : site.channels ≡ (read_plan file lent).channels = f ∙ ap (λ (p : PlanRead). p.channels) r.answer in
      rw (w.answer, w.out_after, r.table_after) (plan-read-written file lent is bytes site fine cells slots channels out fits);
}

pub demand-three : DemandThree
demand-three = record {
  planned_if_any_can = λ first second ok easier nested found v lent left answer long says.
      let e = demand-three-sites first second ok easier ((nested-site second).0 nested) found ((valid-is-definition-one first found).1 v) lent long in
      rw (says.answer, says.table_after) (e, left-valid second lent e);
  nested_exactly = λ site nested verdict tells lent left answer long says.
      rw (tells.answer, says.answer) (
        λ e. (nested-then site nested lent long ((load-is-C1 site).0 e).0).0 e,
        λ e. (nested-then site nested lent long (planned-accepted site lent e)).1 e,
      );
  holds_then_planned = λ site verdict tells e lent left answer long says.
      let holds : load_given (load_answer site) ≡ done = rw tells.answer at e in
      let p = holds-plans site holds lent long in
      rw (says.answer, says.table_after) (p, left-valid site lent p);
  chained_is_nested = chained_is_nested;
  judge_says = λ site verdict says. rw says.answer (judge-is-chained-site site);
  class_says = λ site verdict says. rw says.answer (judge-is-nested-site site);
}

-- ---- demand 3 as document 01 has it, of chained sites

pub planned-if-chained : (first second : Site)
    → Accepted second → Easier second first → ChainedSite second
    → (found : List ℕ) → DefinitionOne first found
    → (lent left : List ℕ) (answer : Result Unit PlanError) → LongEnough second lent → Plan second lent answer left
    → (plan_given answer ≡ done) × (DefinitionOne second left)
planned-if-chained first second ok easier ch = demand-three.planned_if_any_can first second ok easier (chained_is_nested second ch)

pub chained-exactly : (site : Site) → ChainedSite site
    → (verdict : Result LoadVerdict Fault) → judges.LoadTest site verdict
    → (lent left : List ℕ) (answer : Result Unit PlanError) → LongEnough site lent → Plan site lent answer left
    → load_given verdict ≡ done ↔ plan_given answer ≡ done
chained-exactly site ch = demand-three.nested_exactly site (chained_is_nested site ch)
