-- From the numbers given back to the calls' answers and back: each crate proves that its numbers tell its answers apart,
-- so each good answer is one number and its values.
-- Also what the record's fault may be. Assumes nothing.
use mathlib.Core.Path.{◌≡◌, refl, ap}
use mathlib.Core.List.{List, [], ◌∷◌}
use mathlib.Core.Logic.{◌↔◌}
use Prim.Native.Nat.{ℕ}
use Rattle.theory.specs.Greedy.{Outcome, planned, no_room}
use Rattle.site.specs.Record.{fault_of}
use Rattle.site.specs.Given.{done_given}
use Rattle.site.specs.declared.Site.{Site}
use Rattle.site.proofs.Given.{done-apart}
use Rattle.std.specs.Prelude.{Ok, Err}
use Rattle.planner.specs.Plan.{answer_of, plan_answer}
use Rattle.planner.specs.Given.{plan_given}
use Rattle.planner.specs.declared.PlanError.TheVariants as planner
use Rattle.planner.proofs.Given.{plan-apart}
use Rattle.checker.specs.Check.{check_answer}
use Rattle.checker.specs.Given.{check_given}
use Rattle.checker.specs.declared.CheckError.TheVariants as checker
use Rattle.checker.proofs.Given.{check-apart}
use Rattle.judges.specs.Judges.{load_answer, chain_answer, class_answer, least_answer}
use Rattle.judges.specs.Given.{load_given, chain_given, class_given, least_given}
use Rattle.judges.specs.declared.LoadVerdict.TheVariants as load
use Rattle.judges.specs.declared.ChainVerdict.TheVariants as chain
use Rattle.judges.specs.declared.ClassVerdict.TheVariants as class
use Rattle.judges.specs.declared.LeastVerdict.TheVariants as least
use Rattle.judges.proofs.Given.{load_apart, chain-apart, class-apart, least-apart}
use Rattle.heaviest.specs.Sets.{heaviest_of}
use Rattle.heaviest.specs.Given.{heaviest_given}
use Rattle.heaviest.proofs.Given.{heaviest-apart}
use Rattle.demanded.specs.Numbers.{done, done_with, refused, run_given}
use Rattle.demanded.specs.Demands.{Accepted}

pub accepted-number : (s : Site) → Accepted s ↔ fault_of s ≡ Ok tt
accepted-number s = (done-apart (fault_of s) (Ok tt), ap done_given)

pub plan-number : (s : Site) (t : List ℕ) → plan_given (plan_answer s t) ≡ done ↔ plan_answer s t ≡ Ok tt
plan-number s t = (plan-apart (plan_answer s t) (Ok tt), ap plan_given)

pub no-room-number : (s : Site) (t : List ℕ) (c m : ℕ) → plan_given (plan_answer s t) ≡ refused 5 (c ∷ m ∷ []) → plan_answer s t ≡ Err (planner.NoRoom c m)
no-room-number s t c m = plan-apart (plan_answer s t) (Err (planner.NoRoom c m))

pub run-number : (o : Outcome) → plan_given (answer_of o) ≡ run_given o
run-number (planned u) = refl
run-number (no_room c m) = refl

pub check-number : (s : Site) (t : List ℕ) → check_given (check_answer s t) ≡ done ↔ check_answer s t ≡ Ok tt
check-number s t = (check-apart (check_answer s t) (Ok tt), ap check_given)

pub blocked-number : (s : Site) (t : List ℕ) (p c : ℕ) → check_given (check_answer s t) ≡ refused 22 (p ∷ c ∷ []) → check_answer s t ≡ Err (checker.Blocked p c)
blocked-number s t p c = check-apart (check_answer s t) (Err (checker.Blocked p c))

pub clash-number : (s : Site) (t : List ℕ) (p a c : ℕ) → check_given (check_answer s t) ≡ refused 6 (p ∷ a ∷ c ∷ [])
    → check_answer s t ≡ Err (checker.Clash p a c)
clash-number s t p a c = check-apart (check_answer s t) (Err (checker.Clash p a c))

pub count-number : (s : Site) (t : List ℕ) (c n : ℕ) → check_given (check_answer s t) ≡ refused 7 (c ∷ n ∷ []) → check_answer s t ≡ Err (checker.Count c n)
count-number s t c n = check-apart (check_answer s t) (Err (checker.Count c n))

-- ---- the verdicts

pub load-number : (s : Site) → load_given (load_answer s) ≡ done ↔ load_answer s ≡ Ok load.Holds
load-number s = (load_apart (load_answer s) (Ok load.Holds), ap load_given)

pub over-number : (s : Site) (c m : ℕ) → load_given (load_answer s) ≡ done_with (c ∷ m ∷ []) → load_answer s ≡ Ok (load.Over c m)
over-number s c m = load_apart (load_answer s) (Ok (load.Over c m))

pub chain-number : (s : Site) → chain_given (chain_answer s) ≡ done ↔ chain_answer s ≡ Ok chain.Chained
chain-number s = (chain-apart (chain_answer s) (Ok chain.Chained), ap chain_given)

pub broken-number : (s : Site) (a b c : ℕ) → chain_given (chain_answer s) ≡ done_with (a ∷ b ∷ c ∷ []) → chain_answer s ≡ Ok (chain.Broken a b c)
broken-number s a b c = chain-apart (chain_answer s) (Ok (chain.Broken a b c))

pub class-number : (s : Site) → class_given (class_answer s) ≡ done ↔ class_answer s ≡ Ok class.InClass
class-number s = (class-apart (class_answer s) (Ok class.InClass), ap class_given)

pub outside-number : (s : Site) (a b i : ℕ) → class_given (class_answer s) ≡ done_with (a ∷ b ∷ i ∷ []) → class_answer s ≡ Ok (class.Outside a b i)
outside-number s a b i = class-apart (class_answer s) (Ok (class.Outside a b i))

pub least-number : (s : Site) (n : ℕ) → least_given (least_answer s) ≡ done_with (n ∷ 0 ∷ []) ↔ least_answer s ≡ Ok (least.Least n)
least-number s n = (least-apart (least_answer s) (Ok (least.Least n)), ap least_given)

pub enough-number : (s : Site) (n : ℕ) → least_given (least_answer s) ≡ done_with (n ∷ 1 ∷ []) ↔ least_answer s ≡ Ok (least.Enough n)
enough-number s n = (least-apart (least_answer s) (Ok (least.Enough n)), ap least_given)

pub heaviest-number : (s : Site) (load cells : ℕ) → heaviest_given (heaviest_of s) ≡ done_with (load ∷ cells ∷ []) ↔ heaviest_of s ≡ Ok (load, cells)
heaviest-number s load cells = (heaviest-apart (heaviest_of s) (Ok (load, cells)), ap heaviest_given)
