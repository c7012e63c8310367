-- The list of changes is exactly the changes, by cell, then position:
-- the change at cell i and position k stands where the changes before it end, and there are no others.
--     cell-length, changes-length    four numbers a change
--     changes-none                   none where the same is reserved
--     changes-cong                   only what is reserved counts
--     changes-at, changes-each       every change stands in its place, and every place has a change
--     changes-rise                   strictly rising
-- Assumes nothing.
use mathlib.Core.Path.{◌≡◌, refl, sym, ap, ap₂, ◌∙◌}
use mathlib.Core.Bool.{Bool, true, false, not, false≢true}
use mathlib.Core.List.{List, [], ◌∷◌, ◌++◌, append_assoc, append-nil}
use mathlib.Core.Logic.{◌⊎◌, inl, inr, ⊎_elim}
use Prim.Native.Nat.{ℕ, zero, suc, ◌+◌, ◌-◌, ◌*◌, ◌≤◌, ◌<◌}
use native.Mathlib.Numerals.{add-one}
use native.Mathlib.Omega.{arith}
use native.Mathlib.Nat.{not-suc-le-zero, le_of_suc-le-suc, eq-or-lt_of_le, zero-mul, suc-mul}
use lib.Dec.{ltb}
use lib.ListN.{length, take, drop, length-append}
use lib.Seq.{drop_at}
use borrow.Author.Tests.{ltb-true, ltb-false}
use Rattle.laws.specs.Choice.{pick, Rising}
use Rattle.laws.specs.Sum.{bit, sum, count}
use Rattle.laws.proofs.Choice.{cases, order}
use Rattle.laws.proofs.Sums.{sum-eq, sum-none, sum-up, sum_below, count_most}
use Rattle.theory.specs.Net.{Reserved}
use Rattle.mending.specs.Changes.{changed, change_entry, change, cell_changes, changes, change_count}

-- no entry says that nothing changed: what a change was is not what it is
pub differs : (was is : Bool) → pick was (not is) is ≡ true → is ≡ not was
differs true true e = absurd (false≢true e)
differs true false e = refl
differs false true e = refl
differs false false e = absurd (false≢true e)

four : (b : Bool) (w x y z : ℕ) → length (pick b (w ∷ x ∷ y ∷ z ∷ []) []) ≡ 4 * bit b
four true w x y z = refl
four false w x y z = refl

split : (a b : ℕ) → (a < b) ⊎ (b ≤ a)
split a b = ⊎_elim (λ e. inl (ltb-true a b e)) (λ e. inr (ltb-false a b e)) (cases (ltb a b))

same_bits : (a b : Bool) → a ≡ b → pick b (not a) a ≡ false
same_bits a true e = rw e
same_bits a false e = rw e

empty : (l : List ℕ) → length l ≡ 0 → l ≡ []
empty [] e = refl
empty (x ∷ l) e = absurd (omega arith)

-- each number below the count of those that pass is that of one that passes
pub count-each : (p : ℕ → Bool) (m c : ℕ) → c < count p m → (x : ℕ) × (x < m) × (p x ≡ true) × (count p x ≡ c)
unfolding sum
count-each p zero c l = absurd (not-suc-le-zero l)
count-each p (suc m) c l =
    ⊎_elim
    (λ (h : c < count p m). let r = count-each p m c h in (r.0, omega (arith, r.1), r.2, r.3))
    (λ (h : count p m ≤ c). (m, omega arith, has (p m) (count p m) l h, ends (p m) (count p m) l h))
    (split c (count p m))
  where
    has : (b : Bool) (d : ℕ) → c < d + bit b → d ≤ c → b ≡ true
    has true d h g = refl
    has false d h g = absurd (omega arith)

    ends : (b : Bool) (d : ℕ) → c < d + bit b → d ≤ c → d ≡ c
    ends true d h g = omega arith
    ends false d h g = absurd (omega arith)

module _ (is was : Reserved) where
  pub change-length : (i k : ℕ) → length (change (is i k) (was i k) i k) ≡ 4 * bit (changed is was i k)
  change-length i k = four (changed is was i k) (i + 1) k (bit (was i k)) (bit (is i k))

  pub cell-length : (i k : ℕ) → length (cell_changes is was i k) ≡ 4 * count (changed is was i) k
  unfolding cell_changes sum
  cell-length i zero = refl
  cell-length i (suc k) = omega (arith, length-append (cell_changes is was i k) (change (is i k) (was i k) i k), change-length i k, cell-length i k)

  pub changes-length : (n c : ℕ) → length (changes is was n c) ≡ 4 * change_count is was n c
  unfolding changes sum
  changes-length n zero = refl
  changes-length n (suc c) = omega (arith, length-append (changes is was n c) (cell_changes is was c n), cell-length c n, changes-length n c)

  -- one position more
  pub cell-more : (i k : ℕ) → cell_changes is was i (k + 1) ≡ cell_changes is was i k ++ change (is i k) (was i k) i k
  unfolding cell_changes
  cell-more i k = rw add-one

  -- where nothing changes
  pub cell-none : (i n : ℕ) → count (changed is was i) n ≡ 0 → cell_changes is was i n ≡ []
  cell-none i n e = empty (cell_changes is was i n) (cell-length i n ∙ ap (λ x. 4 * x) e)

  pub changes-none : (n c : ℕ) → change_count is was n c ≡ 0 → changes is was n c ≡ []
  changes-none n c e = empty (changes is was n c) (changes-length n c ∙ ap (λ x. 4 * x) e)

  pub count_same : (n c : ℕ) → ((i k : ℕ) → i < c → k < n → is i k ≡ was i k) → change_count is was n c ≡ 0
  count_same n c h =
      sum-eq (λ i. count (changed is was i) n) (λ _. 0) c
      (λ i l. sum-eq (λ k. bit (changed is was i k)) (λ _. 0) n (λ k m. ap bit (same_bits (is i k) (was i k) (h i k l m))) ∙ sum-none n)
      ∙ sum-none c

  -- ---- exactly the changes, in rising order

  -- the number of the change at cell i and position k
  abbrev pub place : ℕ → ℕ → ℕ → ℕ
  place n i k = change_count is was n i + count (changed is was i) k

  cell-split : (i k n : ℕ) → k < n → (r : List ℕ) × (cell_changes is was i n ≡ cell_changes is was i k ++ (change (is i k) (was i k) i k ++ r))
  unfolding cell_changes
  cell-split i k zero l = absurd (not-suc-le-zero l)
  cell-split i k (suc n) l =
      ⊎_elim
      (λ (e : k ≡ n). ([], rw e (ap (λ y. cell_changes is was i n ++ y) (sym (append-nil (change (is i n) (was i n) i n))))))
      (λ (h : k < n).
      let ih = cell-split i k n h in (
        ih.0 ++ change (is i n) (was i n) i n,
        rw ih.1
            (append_assoc (cell_changes is was i k) (change (is i k) (was i k) i k ++ ih.0) (change (is i n) (was i n) i n)
            ∙ ap (λ y. cell_changes is was i k ++ y) (append_assoc (change (is i k) (was i k) i k) ih.0 (change (is i n) (was i n) i n))),
      ))
      (eq-or-lt_of_le (le_of_suc-le-suc l))

  all_split : (n i c : ℕ) → i < c → (r : List ℕ) × (changes is was n c ≡ changes is was n i ++ (cell_changes is was i n ++ r))
  unfolding changes
  all_split n i zero l = absurd (not-suc-le-zero l)
  all_split n i (suc c) l =
      ⊎_elim
      (λ (e : i ≡ c). ([], rw e (ap (λ y. changes is was n c ++ y) (sym (append-nil (cell_changes is was c n))))))
      (λ (h : i < c).
      let ih = all_split n i c h in (
        ih.0 ++ cell_changes is was c n,
        rw ih.1
            (append_assoc (changes is was n i) (cell_changes is was i n ++ ih.0) (cell_changes is was c n)
            ∙ ap (λ y. changes is was n i ++ y) (append_assoc (cell_changes is was i n) ih.0 (cell_changes is was c n))),
      ))
      (eq-or-lt_of_le (le_of_suc-le-suc l))

  -- The list is exact: a change stands at its number
  pub changes-at : (n c i k : ℕ) → i < c → k < n → changed is was i k ≡ true
      → take 4 (drop (4 * place n i k) (changes is was n c)) ≡ change_entry (is i k) (was i k) i k
  changes-at n c i k l m h =
      let p = all_split n i c l in
      let q = cell-split i k n m in
      let front = changes is was n i ++ cell_changes is was i k in
      let e : changes is was n c ≡ front ++ (change (is i k) (was i k) i k ++ (q.0 ++ p.0)) =
      p.1
      ∙ ap (λ y. changes is was n i ++ (y ++ p.0)) q.1
      ∙ ap (λ y. changes is was n i ++ y)
      (append_assoc (cell_changes is was i k) (change (is i k) (was i k) i k ++ q.0) p.0
      ∙ ap (λ y. cell_changes is was i k ++ y) (append_assoc (change (is i k) (was i k) i k) q.0 p.0))
      ∙ sym (append_assoc (changes is was n i) (cell_changes is was i k) (change (is i k) (was i k) i k ++ (q.0 ++ p.0))) in
      let long : length front ≡ 4 * place n i k =
      omega (arith, length-append (changes is was n i) (cell_changes is was i k), changes-length n i, cell-length i k) in
      let d : drop (4 * place n i k) (changes is was n c) ≡ change (is i k) (was i k) i k ++ (q.0 ++ p.0) =
      ap (drop (4 * place n i k)) e ∙ drop_at front (change (is i k) (was i k) i k ++ (q.0 ++ p.0)) (4 * place n i k) long in
      rw (d, h)

  -- and there are no others: each number is that of a change
  pub changes-each : (n c m : ℕ) → m < change_count is was n c
      → (i : ℕ) × (k : ℕ) × (i < c) × (k < n) × (changed is was i k ≡ true) × (place n i k ≡ m)
  unfolding sum
  changes-each n zero m l = absurd (not-suc-le-zero l)
  changes-each n (suc c) m l =
      ⊎_elim
      (λ (h : m < change_count is was n c).
      let r = changes-each n c m h in (r.0, r.1, omega (arith, r.2), r.3, r.4, r.5))
      (λ (h : change_count is was n c ≤ m).
      let r = count-each (changed is was c) n (m - change_count is was n c) (omega arith) in
      (c, r.0, omega arith, r.1, r.2, omega (arith, r.3)))
      (split m (change_count is was n c))

  -- "by cell, then position", strictly rising
  pub changes-rise : (n i k j q : ℕ) → k < n → q < n → place n i k < place n j q → Rising i j (k < q)
  changes-rise n i k j q hk hq l =
      ⊎_elim (λ (o : i < j). inl o)
      (⊎_elim
      (λ (o : i ≡ j). inr (o, later o))
      (λ (o : j < i).
      absurd (omega (arith, sum_below (λ a. count (changed is was a) n) j i o, sum-up (λ a. bit (changed is was j a)) q n (omega arith)))))
      (order i j)
    where
      later : i ≡ j → k < q
      later o =
          ⊎_elim (λ (h : k < q). h)
          (λ (h : q ≤ k). absurd (omega (arith, sum-up (λ a. bit (changed is was i a)) q k h, rw (← o) at l)))
          (split k q)

-- only what is reserved counts
module _ (is is' was was' : Reserved) where
  pub cell-cong : (i n : ℕ) → ((k : ℕ) → k < n → is i k ≡ is' i k) → ((k : ℕ) → k < n → was i k ≡ was' i k) → cell_changes is was i n
      ≡ cell_changes is' was' i n
  unfolding cell_changes
  cell-cong i zero h g = refl
  cell-cong i (suc n) h g =
      let a = cell-cong i n (λ k l. h k (omega arith)) (λ k l. g k (omega arith)) in
      let b = h n (omega arith) in
      let d = g n (omega arith) in
      λ x. a x ++ pick (pick (d x) (not (b x)) (b x)) ((i + 1) ∷ n ∷ bit (d x) ∷ bit (b x) ∷ []) []

  pub changes-cong : (n c : ℕ) → ((i k : ℕ) → i < c → k < n → is i k ≡ is' i k) → ((i k : ℕ) → i < c → k < n → was i k ≡ was' i k)
      → changes is was n c ≡ changes is' was' n c
  unfolding changes
  changes-cong n zero h g = refl
  changes-cong n (suc c) h g =
      ap₂ ◌++◌ (changes-cong n c (λ i k l. h i k (omega arith)) (λ i k l. g i k (omega arith)))
      (cell-cong c n (λ k l. h c k (omega arith) l) (λ k l. g c k (omega arith) l))

  pub count-cong : (i n : ℕ) → ((k : ℕ) → k < n → is i k ≡ is' i k) → ((k : ℕ) → k < n → was i k ≡ was' i k)
      → count (changed is was i) n ≡ count (changed is' was' i) n
  count-cong i n h g =
      sum-eq (λ k. bit (changed is was i k)) (λ k. bit (changed is' was' i k)) n
      (λ k l. let b = h k l in let d = g k l in λ x. bit (pick (d x) (not (b x)) (b x)))

  pub number-cong : (n c : ℕ) → ((i k : ℕ) → i < c → k < n → is i k ≡ is' i k) → ((i k : ℕ) → i < c → k < n → was i k ≡ was' i k)
      → change_count is was n c ≡ change_count is' was' n c
  number-cong n c h g =
      sum-eq (λ i. count (changed is was i) n) (λ i. count (changed is' was' i) n) c (λ i l. count-cong i n (λ k. h i k l) (λ k. g i k l))

-- there are at most as many as bytes
pub few-changes : (is was : Reserved) (n c : ℕ) → change_count is was n c ≤ c * n
unfolding sum
few-changes is was n zero = rw zero-mul (omega arith)
few-changes is was n (suc c) = omega (arith, few-changes is was n c, count_most (changed is was c) n, suc-mul c n)
