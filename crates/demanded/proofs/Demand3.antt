-- Demand 3, over two accepted site records and over tables as the checker reads them. The theory's demand 3 is about problems;
-- here the premises and the answer are what the public calls say, in the document's numbers. Assumes nothing.
use mathlib.Core.Path.{◌≡◌, refl, sym, ap, ◌∙◌}
use mathlib.Core.List.{List, [], ◌∷◌}
use mathlib.Core.Logic.{◌↔◌}
use Prim.Native.Nat.{ℕ, ◌+◌, ◌<◌}
use native.Mathlib.Omega.{arith}
use native.Mathlib.Nat.{le_refl}
use Rattle.theory.specs.Net.{Valid, Class, Eases}
use Rattle.theory.specs.Full.{Mutual, weight, around}
use Rattle.theory.proofs.Full.{over-full}
use Rattle.theory.specs.Greedy.{reserved}
use Rattle.theory.proofs.Exact.{demand-three, class-exact}
use Rattle.site.specs.Record.{positions}
use Rattle.site.specs.Reach.{net_of}
use Rattle.site.specs.Given.{Given}
use Rattle.site.specs.declared.Site.{Site}
use Rattle.site.proofs.Accepted.{net-open}
use Rattle.planner.specs.Plan.{plan_answer}
use Rattle.planner.proofs.Meaning.{done-means, test-done}
use Rattle.planner.specs.Given.{plan_given}
use Rattle.judges.specs.Judges.{counted, load_answer, chain_answer, class_answer}
use Rattle.judges.specs.Given.{load_given, chain_given, class_given}
use Rattle.judges.proofs.Meaning.{covers-counted, over-means, chained-in-class}
use Rattle.checker.specs.Check.{check_answer}
use Rattle.checker.specs.Given.{check_given}
use Rattle.demanded.specs.Numbers.{done, done_with, refused}
use Rattle.demanded.specs.Demands.{Accepted, LongEnough, open_positions, Easier}
use Rattle.demanded.proofs.Numbers.{accepted-number, plan-number, over-number, chain-number, class-number}
use Rattle.demanded.proofs.Demand2.{check-is-valid, load-is-C1, judge-is-nested}

eases : (second first : Site) → Easier second first → Eases (net_of second) (net_of first)
eases second first h = record {
  same = h.same_cells;
  roomier = omega (arith, net-open second, net-open first, h.as_many_channel_slots);
  lighter = h.no_greater_load;
  sparser = λ a c l m. h.no_new_clash a c (omega arith) m;
}

-- If any valid plan of the first exists, however found, the planner plans the second. Over the valid-table definition.
pub demand-three-sites : (first second : Site) → Accepted second → Easier second first → Class (net_of second) (counted second)
    → (found : List ℕ) → Valid (net_of first) (reserved (positions first) found)
    → (lent : List ℕ) → LongEnough second lent → plan_given (plan_answer second lent) ≡ done
demand-three-sites first second fine easier nested found v lent long =
    (plan-number second lent).1 ((done-means second lent).1 (
      (accepted-number second).0 fine,
      long,
      demand-three (net_of first) (reserved (positions first) found) v (net_of second) (eases second first easier) (counted second)
          (covers-counted second) nested,
    ))

-- The same over what the calls say: the judge says "nested", the checker says "valid", and the planner is done.
pub demand-three-calls : (first second : Site) → Easier second first → class_given (class_answer second) ≡ done
    → (found : List ℕ) → check_given (check_answer first found) ≡ done
    → (lent : List ℕ) → LongEnough second lent → plan_given (plan_answer second lent) ≡ done
demand-three-calls first second easier nested found ok lent long =
    let c = (judge-is-nested second).0 nested in
    let v = (check-is-valid first found).0 ok in
    demand-three-sites first second c.0 easier c.1 found v.2 lent long

-- On a nested site the load test holds exactly when the planner plans
pub nested-exact : (s : Site) → class_given (class_answer s) ≡ done → (lent : List ℕ) → LongEnough s lent
    → load_given (load_answer s) ≡ done ↔ plan_given (plan_answer s lent) ≡ done
nested-exact s nested lent long =
    let c = (judge-is-nested s).0 nested in
    let x = class-exact (net_of s) (counted s) (covers-counted s) c.1 in (
      λ e. (plan-number s lent).1 ((done-means s lent).1 ((accepted-number s).0 c.0, long, x.0 ((load-is-C1 s).0 e).1)),
      λ e. (load-is-C1 s).1 (c.0, x.1 ((done-means s lent).0 ((plan-number s lent).0 e)).2),
    )

-- on any site a load test that holds means a plan
pub holds-plans : (s : Site) → load_given (load_answer s) ≡ done → (lent : List ℕ) → LongEnough s lent → plan_given (plan_answer s lent) ≡ done
holds-plans s e lent long =
    let h = (load-is-C1 s).0 e in
    (plan-number s lent).1 (test-done s lent ((accepted-number s).0 h.0) long (counted s) (covers-counted s) h.1)

-- ---- what these mean on the ground

-- Refusal 5 on a nested site: the site is full. No table at all is valid for it.
pub nested-full : (s : Site) → class_given (class_answer s) ≡ done → (lent : List ℕ) → LongEnough s lent
    → (cell short : ℕ) → plan_given (plan_answer s lent) ≡ refused 5 (cell ∷ short ∷ []) → (any : List ℕ) → check_given (check_answer s any) ≡ done → ⊥
nested-full s nested lent long cell short five any ok =
    let yes = demand-three-calls s s (record {
      same_cells = refl;
      as_many_channel_slots = le_refl _;
      no_greater_load = λ i _. le_refl _;
      no_new_clash = λ a c _ _ e. e;
    }) nested any ok lent long in
    let z : ◌≡◌ {A = ℕ} 5 0 = ap (λ (g : Given). g.number) (sym five ∙ yes) in
    omega arith

-- Why it is full: the cell that the load test names, with its lower clashing loaded cells, all clash with one another,
-- and their loads come to more than the open positions there are.
pub nested-why : (s : Site) → class_given (class_answer s) ≡ done → (cell m : ℕ) → load_given (load_answer s) ≡ done_with (cell ∷ m ∷ [])
    → (i : ℕ) × (cell ≡ i + 1) × (Mutual (net_of s) (around (net_of s) i)) × (open_positions s < weight (net_of s) (around (net_of s) i))
nested-why s nested cell m e =
    let c = (judge-is-nested s).0 nested in
    let o = over-means s cell m (over-number s cell m e) in
    let f = o.1.2 in
    let w = over-full (net_of s) o.1.0 (counted s) (covers-counted s) c.1 f.inside f.counts f.exceeds in
    (o.1.0, o.1.1, w.0, rw (← net-open s) w.1)

-- ---- W9: "each chained site is in the class", and so the same of chained sites

pub chained-nested : (s : Site) → chain_given (chain_answer s) ≡ done → class_given (class_answer s) ≡ done
chained-nested s ch = (class-number s).1 (chained-in-class s ((chain-number s).0 ch))

pub chained-exact : (s : Site) → chain_given (chain_answer s) ≡ done → (lent : List ℕ) → LongEnough s lent
    → load_given (load_answer s) ≡ done ↔ plan_given (plan_answer s lent) ≡ done
chained-exact s ch = nested-exact s (chained-nested s ch)

pub chained-full : (s : Site) → chain_given (chain_answer s) ≡ done → (lent : List ℕ) → LongEnough s lent
    → (cell short : ℕ) → plan_given (plan_answer s lent) ≡ refused 5 (cell ∷ short ∷ []) → (any : List ℕ) → check_given (check_answer s any) ≡ done → ⊥
chained-full s ch = nested-full s (chained-nested s ch)

pub chained-why : (s : Site) → chain_given (chain_answer s) ≡ done → (cell m : ℕ) → load_given (load_answer s) ≡ done_with (cell ∷ m ∷ [])
    → (i : ℕ) × (cell ≡ i + 1) × (Mutual (net_of s) (around (net_of s) i)) × (open_positions s < weight (net_of s) (around (net_of s) i))
chained-why s ch = nested-why s (chained-nested s ch)
