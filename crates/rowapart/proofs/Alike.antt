-- Two problems that differ in no usable position of a row have one greedy run, cell by cell: so a table is the plan of both or of neither, and its first rows
-- are those of both. Assumes nothing.
use mathlib.Core.Path.{◌≡◌, refl, sym, ap, ap₂, ◌∙◌}
use mathlib.Core.Bool.{Bool}
use mathlib.Core.List.{List, [], ◌++◌, append-nil}
use Prim.Native.Nat.{ℕ, zero, suc, ◌+◌, ◌-◌, ◌*◌, ◌<◌}
use native.Mathlib.Omega.{arith}
use lib.ListN.{get_or, take, drop}
use lib.Seq.{drop-nil}
use Rattle.theory.specs.Net.{Net}
use Rattle.theory.specs.Greedy.{fill, row, held, Outcome, planned, no_room, close, next, run, greedy}
use Rattle.theory.specs.Plan.{comes_to, is_plan}
use Rattle.site.specs.Reach.{net_in}
use Rattle.planner.specs.Plan.{answer_of, table_of}
use Rattle.planner.specs.Loop.{PlannedTo}
use Rattle.planner.proofs.Alike.{answer-alike, leaves_alike}
use Rattle.planner.proofs.Marked.{marked-alike}

-- an outcome is known by its answer and its table
told : (m : ℕ) (o p : Outcome) → answer_of o ≡ answer_of p → table_of m o ++ [] ≡ table_of m p ++ [] → o ≡ p
told m (planned a) (planned b) e f = ap planned (sym (append-nil a) ∙ f ∙ append-nil b)
told m (planned a) (no_room c k) e f = let z : ◌≡◌ {A = ℕ} 0 1 = cc in absurd (omega arith)
told m (no_room c k) (planned b) e f = let z : ◌≡◌ {A = ℕ} 0 1 = cc in absurd (omega arith)
told m (no_room c k) (no_room d l) e f =
    let x : c + 1 ≡ d + 1 = cc in
    let y : k ≡ l = cc in
    let z : c ≡ d = omega arith in
    ap₂ no_room z y

-- a run does not ask how many cells there are
module _ (a b n : ℕ) (loads : List ℕ) (clash : ℕ → ℕ → Bool) (u : ℕ → Bool) where
  abbrev one : Net
  one = net_in a n loads clash u

  abbrev other : Net
  other = net_in b n loads clash u

  row-cells : (t : List ℕ) (i : ℕ) → row one t i ≡ row other t i
  row-cells t i = ap (fill u 0 (get_or loads i 0)) (sym (marked-alike a n loads clash u t i i) ∙ marked-alike b n loads clash u t i i)

  next-cells : (i : ℕ) (o : Outcome) → next one (row one) i o ≡ next other (row other) i o
  next-cells i (planned t) = (λ x. close i (get_or loads i 0 - held n (row-cells t i x)) (t ++ row-cells t i x))
  next-cells i (no_room c m) = refl

  run-cells : (i : ℕ) → run one (row one) i ≡ run other (row other) i
  unfolding run
  run-cells zero = refl
  run-cells (suc i) = ap (next one (row one) i) (run-cells i) ∙ next-cells i (run other (row other) i)

module _ (n : ℕ) (loads : List ℕ) (clash : ℕ → ℕ → Bool) (u v : ℕ → Bool) (same : (k : ℕ) → k < n → u k ≡ v k) where
  greedy-alike : (cells : ℕ) → greedy (net_in cells n loads clash v) ≡ greedy (net_in cells n loads clash u)
  greedy-alike cells =
      let ends : (w : ℕ → Bool) → table_of (cells * n) (greedy (net_in cells n loads clash w)) ++ []
      ≡ table_of (cells * n) (greedy (net_in cells n loads clash w)) ++ drop (cells * n) []
      = λ w. ap (λ (l : List ℕ). table_of (cells * n) (greedy (net_in cells n loads clash w)) ++ l) (sym (drop-nil (cells * n))) in
      told (cells * n) (greedy (net_in cells n loads clash v)) (greedy (net_in cells n loads clash u)) (answer-alike cells n loads clash u v same)
      (ends v ∙ leaves_alike cells n loads clash u v same [] ∙ sym (ends u))

  pub plan-alike : (cells : ℕ) (t : List ℕ) → is_plan (net_in cells n loads clash v) t ≡ is_plan (net_in cells n loads clash u) t
  unfolding is_plan
  plan-alike cells t = ap (λ (o : Outcome). comes_to o (take (cells * n) t)) (greedy-alike cells)

  pub planned-alike : (cells i : ℕ) (t : List ℕ) → PlannedTo (net_in cells n loads clash u) i t → PlannedTo (net_in cells n loads clash v) i t
  planned-alike cells i t is = run-cells cells i n loads clash v i ∙ greedy-alike i ∙ run-cells i cells n loads clash u i ∙ is
