-- Two problems that differ in no usable position of a row have one greedy run, and so one answer and one table. The first 64 positions are blocked by the
-- first word of the set (`first-open`). Assumes nothing.
use mathlib.Core.Path.{◌≡◌, refl, sym, ap, ◌∙◌}
use mathlib.Core.Bool.{Bool, ◌&&◌, not}
use mathlib.Core.List.{List, [], ◌∷◌, ◌++◌}
use Prim.Native.Nat.{ℕ, zero, suc, ◌+◌, ◌-◌, ◌*◌, ◌/◌, ◌%◌, ◌≤◌, ◌<◌}
use native.Mathlib.Omega.{arith}
use native.Mathlib.Nat.{add-zero, zero-add}
use lib.Dec.{eqb}
use lib.ListN.{length, get_or, drop}
use Rattle.laws.specs.Bits.{bit_at}
use Rattle.laws.specs.Choice.{pick}
use Rattle.theory.specs.Net.{Net}
use Rattle.theory.specs.Greedy.{marked, fill, row, held, Outcome, planned, no_room, close, next, run, greedy}
use Rattle.theory.proofs.Row.{marked-length}
use Rattle.site.specs.Reach.{net_in, is_open}
use Rattle.planner.specs.Plan.{answer_of, table_of, leaves}
use Rattle.planner.proofs.Marked.{marked-alike}

-- below 64 the first word says what is blocked
pub first-open : (words : List ℕ) (n : ℕ) → n ≤ 64 → (k : ℕ) → k < n → is_open words k ≡ not (bit_at (get_or words 0 0) k)
first-open words n small k l =
    let low : k / 64 ≡ 0 = omega arith in
    let own : k % 64 ≡ k = omega arith in
    rw (low, own) refl

fill-alike : (u v : ℕ → Bool) (k l : ℕ) (r : List ℕ) → ((p : ℕ) → p < length r → u (k + p) ≡ v (k + p)) → fill u k l r ≡ fill v k l r
unfolding fill
fill-alike u v k l [] same = refl
fill-alike u v k zero (b ∷ r) same = refl
fill-alike u v k (suc l) (b ∷ r) same =
    let here : u k ≡ v k = ap u (sym (add-zero k)) ∙ same 0 (omega arith) ∙ ap v (add-zero k) in
    let past : (p : ℕ) → p < length r → u (suc k + p) ≡ v (suc k + p)
    = λ p h. let e : suc k + p ≡ k + suc p = omega arith in ap u e ∙ same (suc p) (omega arith) ∙ ap v (sym e) in
    (λ x. pick (here x && eqb b 0) (1 ∷ fill-alike u v (suc k) l r past x) (b ∷ fill-alike u v (suc k) (suc l) r past x))

module _ (cells n : ℕ) (loads : List ℕ) (clash : ℕ → ℕ → Bool) (u v : ℕ → Bool) (same : (k : ℕ) → k < n → u k ≡ v k) where
  abbrev one : Net
  one = net_in cells n loads clash u

  abbrev other : Net
  other = net_in cells n loads clash v

  row-alike : (t : List ℕ) (i : ℕ) → row one t i ≡ row other t i
  row-alike t i =
      let within : (p : ℕ) → p < length (marked one t i i) → u (0 + p) ≡ v (0 + p)
      = λ p h. ap u (zero-add p) ∙ same p (omega (arith, marked-length one t i i)) ∙ ap v (sym (zero-add p)) in
      fill-alike u v 0 (get_or loads i 0) (marked one t i i) within
      ∙ ap (fill v 0 (get_or loads i 0)) (sym (marked-alike cells n loads clash u t i i) ∙ marked-alike cells n loads clash v t i i)

  next-alike : (i : ℕ) (o : Outcome) → next one (row one) i o ≡ next other (row other) i o
  next-alike i (planned t) = (λ x. close i (get_or loads i 0 - held n (row-alike t i x)) (t ++ row-alike t i x))
  next-alike i (no_room c m) = refl

  run-alike : (i : ℕ) → run one (row one) i ≡ run other (row other) i
  unfolding run
  run-alike zero = refl
  run-alike (suc i) = ap (next one (row one) i) (run-alike i) ∙ next-alike i (run other (row other) i)

  pub answer-alike : answer_of (greedy (net_in cells n loads clash v)) ≡ answer_of (greedy (net_in cells n loads clash u))
  answer-alike = ap answer_of (sym (run-alike cells))

  pub leaves_alike : (t : List ℕ) → leaves (net_in cells n loads clash v) t ≡ leaves (net_in cells n loads clash u) t
  leaves_alike t = ap (λ o. table_of (cells * n) o ++ drop (cells * n) t) (sym (run-alike cells))
