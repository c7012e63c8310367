-- The table that a plan is laid out in.
--     lay-length, lay-append      it keeps its length, and only the site's part is written
--     lay-bytes                   its site part is 1s and 0s
--     lay-mark                    it reserves what is placed, and nothing else
-- Assumes nothing.
use mathlib.Core.Path.{◌≡◌, refl, sym, ap, ◌∙◌}
use mathlib.Core.Bool.{true, ◌&&◌, and-eq-true_iff, true≢false}
use mathlib.Core.List.{List, [], ◌∷◌, ◌++◌}
use mathlib.Core.Logic.{⊎_elim}
use Prim.Native.Nat.{ℕ, zero, suc, ◌+◌, ◌*◌, ◌≤◌, ◌<◌}
use native.Mathlib.Omega.{arith}
use lib.Dec.{eqb}
use lib.ListN.{length, get_or, set, replicate, length-set, length-replicate, get_or-replicate}
use lib.Seq.{set-append_left, get_or-set_same, get_or-set_other}
use borrow.Author.Tests.{eq-eqb, eqb-true}
use Rattle.theory.specs.Greedy.{reserved}
use Rattle.laws.proofs.Choice.{cases}
use Rattle.laws.proofs.Grid.{inside, same_place}
use Rattle.laws.proofs.Stores.{zeros-at}
use Rattle.tries.specs.Search.{Spot, reserved_by}
use Rattle.tries.proofs.Lists.{spots-head, spots-tail}
use Rattle.search.specs.Search.{lay_out}

pub lay-length : (n : ℕ) (qs : List Spot) (t : List ℕ) → length (lay_out n qs t) ≡ length t
unfolding lay_out
lay-length n [] t = refl
lay-length n (q ∷ qs) t = simp length-set (lay-length n qs t)

pub lay-append : (n : ℕ) (qs : List Spot) (xs ys : List ℕ) → ((i k : ℕ) → reserved_by qs i k ≡ true → i * n + k < length xs)
    → lay_out n qs (xs ++ ys) ≡ lay_out n qs xs ++ ys
unfolding lay_out
lay-append n [] xs ys h = refl
lay-append n (q ∷ qs) xs ys h =
    let ih = lay-append n qs xs ys (λ i k m. h i k (spots-tail q qs i k m)) in
    let b : q.cell * n + q.position < length (lay_out n qs xs) = omega (arith, h q.cell q.position (spots-head q qs), lay-length n qs xs) in
    rw ih (set-append_left (lay_out n qs xs) ys (q.cell * n + q.position) 1 b)

pub lay-mark : (cells n : ℕ) (qs : List Spot) → ((i k : ℕ) → reserved_by qs i k ≡ true → (i < cells) × (k < n)) → (i k : ℕ) → i < cells → k < n
    → reserved n (lay_out n qs (replicate (cells * n) 0)) i k ≡ reserved_by qs i k
unfolding lay_out reserved_by
lay-mark cells n [] h i k l m = ap (λ b. eqb b 1) (get_or-replicate {A = ℕ} (cells * n) (i * n + k) 0 0 (inside cells n i k l m))
lay-mark cells n (q ∷ qs) h i k l m =
    let ih = lay-mark cells n qs (λ a b e. h a b (spots-tail q qs a b e)) i k l m in
    let t = lay_out n qs (replicate (cells * n) 0) in
    let here = h q.cell q.position (spots-head q qs) in
    let size : length t ≡ cells * n = lay-length n qs (replicate (cells * n) 0) ∙ length-replicate {A = ℕ} (cells * n) 0 in
    ⊎_elim
    (λ e.
    let x = (and-eq-true_iff (eqb i q.cell) (eqb k q.position)).0 e in
    let a : i ≡ q.cell = eqb-true i q.cell x.0 in
    let b : k ≡ q.position = eqb-true k q.position x.1 in
    let same : i * n + k ≡ q.cell * n + q.position = ap (λ z. z * n + k) a ∙ ap (λ z. q.cell * n + z) b in
    let w : q.cell * n + q.position < length t = omega (arith, inside cells n q.cell q.position here.0 here.1) in
    rw e (ap (λ z. eqb z 1) (ap (λ z. get_or (set t (q.cell * n + q.position) 1) z 0) same ∙ get_or-set_same t (q.cell * n + q.position) 1 0 w)))
    (λ e.
    rw e
    (ap (λ z. eqb z 1)
    (get_or-set_other t (q.cell * n + q.position) (i * n + k) 1 0
    (λ z.
    let y = same_place n i q.cell k q.position m here.1 z in
    true≢false (sym (rw (eq-eqb i q.cell y.0, eq-eqb k q.position y.1)) ∙ e)))
    ∙ ih))
    (cases (eqb i q.cell && eqb k q.position))

-- ---- its bytes

set-most : (xs : List ℕ) (j k : ℕ) → get_or xs k 0 ≤ 1 → get_or (set xs j 1) k 0 ≤ 1
set-most [] j k h = h
set-most (x ∷ xs) zero zero h = omega arith
set-most (x ∷ xs) zero (suc k) h = h
set-most (x ∷ xs) (suc j) zero h = h
set-most (x ∷ xs) (suc j) (suc k) h = set-most xs j k h

-- 1s and 0s
pub lay-bytes : (n : ℕ) (qs : List Spot) (m k : ℕ) → get_or (lay_out n qs (replicate m 0)) k 0 ≤ 1
unfolding lay_out
lay-bytes n [] m k = omega (arith, zeros-at m k)
lay-bytes n (q ∷ qs) m k = set-most (lay_out n qs (replicate m 0)) (q.cell * n + q.position) k (lay-bytes n qs m k)
