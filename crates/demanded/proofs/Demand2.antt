-- Demand 2, over what the contracts cite, in the document's numbers. Each crate proves its own part; here they stand side by side. Assumes nothing.
use mathlib.Core.Path.{◌≡◌, sym, ap, ◌∙◌}
use mathlib.Core.Bool.{not, true≢false}
use mathlib.Core.List.{List, ◌++◌}
use mathlib.Core.Logic.{◌↔◌}
use Prim.Native.Nat.{ℕ, ◌<◌}
use native.Mathlib.Omega.{arith}
use lib.ListN.{drop, length-append}
use borrow.Author.Tests.{not-true}
use Rattle.laws.proofs.Sums.{count_most}
use Rattle.theory.specs.Net.{Valid, LoadTest, Chained, Class}
use Rattle.theory.specs.Greedy.{reserved}
use Rattle.theory.specs.Figure.{figure_one}
use Rattle.positions.specs.Blocked.{blocked_at}
use Rattle.site.specs.Record.{positions, size, load_at}
use Rattle.site.specs.Reach.{clash_in, net_of}
use Rattle.site.proofs.Reach.{clash-sym, clash-self}
use Rattle.site.specs.declared.Site.{Site}
use Rattle.planner.specs.Plan.{table_of, plan_answer, plan_table}
use Rattle.planner.specs.Given.{plan_given}
use Rattle.planner.proofs.Meaning.{done-means, done-valid, figure-answer, figure-table}
use Rattle.planner.proofs.Answer.{run-table}
use Rattle.theory.proofs.Exact.{planned-size, apart-any}
use Rattle.judges.specs.Judges.{counted, load_answer, chain_answer, class_answer}
use Rattle.judges.specs.Given.{load_given, chain_given, class_given}
use Rattle.judges.proofs.Meaning.{holds-means, chained-means, class-means}
use Rattle.checker.specs.Check.{check_answer}
use Rattle.checker.specs.Given.{check_given}
use Rattle.checker.proofs.Meaning.{valid-means}
use Rattle.demanded.specs.Numbers.{done, run_given}
use Rattle.demanded.specs.Demands.{Accepted, LongEnough, DefinitionOne}
use Rattle.demanded.proofs.Numbers.{accepted-number, plan-number, run-number, check-number, load-number, chain-number}
use Rattle.demanded.proofs.Numbers.{class-number}

-- The plan equals the paper's greedy schedule, mark for mark: answer and table are those of Figure 1, and the bytes past the site's part are as they were.
pub plan-is-figure : (s : Site) (t : List ℕ) → Accepted s → LongEnough s t
    → (plan_given (plan_answer s t) ≡ run_given (figure_one (net_of s) s.slots s.channels))
    × (plan_table s t ≡ table_of (size s) (figure_one (net_of s) s.slots s.channels) ++ drop (size s) t)
plan-is-figure s t ok long =
    let fine = (accepted-number s).0 ok in (
      ap plan_given (figure-answer s t fine long) ∙ run-number (figure_one (net_of s) s.slots s.channels),
      figure-table s t fine long,
    )

-- `Valid` is the paper's Definition 1: it asks pairs with the lower cell first, and clash is symmetric and never of a cell with itself.
pub valid-is-definition-one : (s : Site) (t : List ℕ) → Valid (net_of s) (reserved (positions s) t) ↔ DefinitionOne s t
valid-is-definition-one s t = (
  λ v. record {
    condition_one = λ a c k la lc w h p q.
        apart-any (net_of s) (reserved (positions s) t) v (clash-sym s.rule s.reach) a c k
        (λ e. true≢false (sym h ∙ ap (clash_in s.rule s.reach a) (sym e) ∙ clash-self s.rule s.reach a)) la lc w h p q;
    condition_two = v.exact;
    condition_three = λ i k l w h. not-true (blocked_at s.blocked k) (v.allowed i k l w h);
  },
  λ d. record {
    apart = λ a c k l m w h p q. d.condition_one a c k (omega arith) m w h p q;
    exact = d.condition_two;
    allowed = λ i k l w h. ap not (d.condition_three i k l w h);
  },
)

-- The checker says yes exactly to the paper's valid schedules.
pub check-is-valid : (s : Site) (t : List ℕ)
    → check_given (check_answer s t) ≡ done ↔ ((Accepted s) × (LongEnough s t) × (Valid (net_of s) (reserved (positions s) t)))
check-is-valid s t = (
  λ e.
      let v = (valid-means s t).0 ((check-number s t).0 e) in
      ((accepted-number s).1 v.0, v.1, v.2),
  λ v. (check-number s t).1 ((valid-means s t).1 ((accepted-number s).0 v.0, v.1, v.2)),
)

-- "A load above N is accepted in a site; the planner refuses it."
pub load-above-refused : (s : Site) (i : ℕ) → i < s.cells → positions s < load_at s i → (t : List ℕ) → plan_given (plan_answer s t) ≡ done → ⊥
load-above-refused s i l above t e =
    omega (arith, (done-valid s t ((plan-number s t).0 e)).exact i l, count_most (reserved (positions s) (plan_table s t) i) (positions s))

-- The load test is the paper's. W2: it "skips cells with load 0".
pub load-is-C1 : (s : Site) → load_given (load_answer s) ≡ done ↔ ((Accepted s) × (LoadTest (net_of s) (counted s)))
load-is-C1 s = (
  λ e.
      let h = (holds-means s).0 ((load-number s).0 e) in
      ((accepted-number s).1 h.0, h.1),
  λ h. (load-number s).1 ((holds-means s).1 ((accepted-number s).0 h.0, h.1)),
)

-- The chain judge says yes exactly to chained sites. W2: chained by their cells "with load above 0 only, as a, b and c".
pub judge-is-chained : (s : Site) → chain_given (chain_answer s) ≡ done ↔ ((Accepted s) × (Chained (net_of s) (counted s)))
judge-is-chained s = (
  λ e.
      let c = (chained-means s).0 ((chain-number s).0 e) in
      ((accepted-number s).1 c.0, c.1),
  λ c. (chain-number s).1 ((chained-means s).1 ((accepted-number s).0 c.0, c.1)),
)

-- The judge of the class says yes exactly to nested sites. W9: "every loaded cell's loaded, lower-numbered clashing cells clash with one another".
pub judge-is-nested : (s : Site) → class_given (class_answer s) ≡ done ↔ ((Accepted s) × (Class (net_of s) (counted s)))
judge-is-nested s = (
  λ e.
      let c = (class-means s).0 ((class-number s).0 e) in
      ((accepted-number s).1 c.0, c.1),
  λ c. (class-number s).1 ((class-means s).1 ((accepted-number s).0 c.0, c.1)),
)

-- What the planner leaves when it is done, the checker calls valid.
pub planned-checks : (s : Site) (lent : List ℕ) → plan_given (plan_answer s lent) ≡ done → check_given (check_answer s (plan_table s lent)) ≡ done
planned-checks s lent g =
    let e = (plan-number s lent).0 g in
    let d = (done-means s lent).0 e in
    let u = d.2.0 in
    let rest = drop (size s) lent in
    let is : plan_table s lent ≡ u ++ rest = run-table s lent d.0 d.1 ∙ ap (λ o. table_of (size s) o ++ rest) d.2.1 in
    let long : LongEnough s (plan_table s lent) = rw is (omega (arith, length-append u rest, planned-size (net_of s) u d.2.1)) in
    (check-is-valid s (plan_table s lent)).1 ((accepted-number s).1 d.0, long, done-valid s lent e)
