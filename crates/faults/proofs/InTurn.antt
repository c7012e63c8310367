-- Laws of `in_turn`, each by one list more: none where every list is empty, its length, what is at its front, how often a fault is in it. Assumes nothing.
use mathlib.Core.Path.{◌≡◌, refl, ap, ◌∙◌}
use mathlib.Core.Bool.{Bool, true, false, ◌&&◌}
use mathlib.Core.List.{List, [], ◌∷◌, ◌++◌}
use mathlib.Core.Logic.{⊎_elim}
use Prim.Native.Nat.{ℕ, zero, suc, ◌+◌, ◌≤◌, ◌<◌, zero-le}
use native.Mathlib.Numerals.{add-one}
use native.Mathlib.Omega.{arith}
use lib.Dec.{ltb}
use lib.ListN.{length, length-append}
use borrow.Author.Tests.{ltb-true, ltb-false, lt-ltb, le-ltb}
use Rattle.laws.specs.Choice.{pick}
use Rattle.laws.specs.Search.{first, first_of}
use Rattle.laws.specs.Sum.{bit, sum, count}
use Rattle.laws.proofs.Choice.{cases}
use Rattle.laws.proofs.Search.{first_passes, first-before, first-is, first-none}
use Rattle.laws.proofs.Sums.{sum-single}
use Rattle.theory.specs.Verdict.{TableVerdict}
use Rattle.faults.specs.Faults.{in_turn, passed}
use Rattle.faults.specs.Means.{same, times, front_or}

module _ {A : Type 0} (g : ℕ → List A) where
  -- one list more
  pub turn_suc : (n : ℕ) → in_turn g (suc n) ≡ in_turn g n ++ g n
  unfolding in_turn
  turn_suc n = refl

  -- and as a program counts
  pub turn_more : (n : ℕ) → in_turn g (n + 1) ≡ in_turn g n ++ g n
  turn_more n = ap (in_turn g) (add-one n) ∙ turn_suc n

  pub turn-none : (n : ℕ) → ((k : ℕ) → k < n → g k ≡ []) → in_turn g n ≡ []
  unfolding in_turn
  turn-none zero h = refl
  turn-none (suc n) h = rw (turn-none n (λ k l. h k (omega arith)), h n (omega arith))

  pub turn-length : (n : ℕ) → length (in_turn g n) ≡ sum (λ k. length (g k)) n
  unfolding in_turn sum
  turn-length zero = refl
  turn-length (suc n) = omega (arith, length-append (in_turn g n) (g n), turn-length n)

-- an item is one long where it is there
item-length : {A : Type 0} (b : Bool) (x : A) → length (pick b (x ∷ []) []) ≡ bit b
item-length true x = refl
item-length false x = refl

pub passed_length : {A : Type 0} (p : ℕ → Bool) (item : ℕ → A) (n : ℕ) → length (passed p item n) ≡ count p n
unfolding in_turn sum
passed_length p item zero = refl
passed_length p item (suc n) =
    omega (arith, length-append (passed p item n) (pick (p n) (item n ∷ []) []), item-length (p n) (item n), passed_length p item n)

-- ---- the front

pub front-append : (d : TableVerdict) (l m : List TableVerdict) → front_or d (l ++ m) ≡ front_or (front_or d m) l
front-append d [] m = refl
front-append d (v ∷ l) m = refl

-- a search that goes one number further
module _ (p : ℕ → Bool) (n : ℕ) where
  further : first p 0 n < n → first p 0 (suc n) ≡ first p 0 n
  further l = first-is p 0 (first p 0 n) (suc n) zero-le (omega arith) (first_passes p 0 n zero-le l) (λ j m i. first-before p 0 n j m i)

  hits : n ≤ first p 0 n → p n ≡ true → first p 0 (suc n) ≡ n
  hits l t = first-is p 0 n (suc n) zero-le (omega arith) t (λ j m i. first-before p 0 n j m (omega arith))

  misses : n ≤ first p 0 n → p n ≡ false → first p 0 (suc n) ≡ suc n
  misses l t =
      first-none p 0 (suc n) zero-le
      (λ j m i.
      ⊎_elim (λ h. first-before p 0 n j m (omega (arith, ltb-true j n h))) (λ h. let e : j ≡ n = omega (arith, ltb-false j n h) in rw e t) (cases (ltb j n)))

  front-step : (v : ℕ → TableVerdict) (d : TableVerdict) (l : List TableVerdict) → (p n ≡ false → l ≡ []) → (p n ≡ true → front_or d l ≡ v n)
      → pick (ltb (first p 0 n) n) (v (first p 0 n)) (front_or d l) ≡ pick (ltb (first p 0 (suc n)) (suc n)) (v (first p 0 (suc n))) d
  front-step v d l empty full =
      ⊎_elim
      (λ h. let low : first p 0 n < n = ltb-true (first p 0 n) n h in rw (h, further low, lt-ltb (first p 0 n) (suc n) (omega arith)))
      (λ h.
      let far : n ≤ first p 0 n = ltb-false (first p 0 n) n h in
      rw h
      (⊎_elim (λ t. rw (hits far t, lt-ltb n (suc n) (omega arith)) (full t))
      (λ t. rw (misses far t, le-ltb (suc n) (suc n) (omega arith), empty t)) (cases (p n))))
      (cases (ltb (first p 0 n) n))

-- The front of lists of which those that pass have a front and the others are empty: that of the first that passes.
pub front-turn : (g : ℕ → List TableVerdict) (p : ℕ → Bool) (v : ℕ → TableVerdict) (n : ℕ) → ((k : ℕ) → k < n → p k ≡ false → g k ≡ [])
    → ((k : ℕ) → k < n → p k ≡ true → (d : TableVerdict) → front_or d (g k) ≡ v k)
    → (d : TableVerdict) → front_or d (in_turn g n) ≡ pick (ltb (first p 0 n) n) (v (first p 0 n)) d
unfolding in_turn first_of
front-turn g p v zero empty full d = refl
front-turn g p v (suc n) empty full d =
    front-append d (in_turn g n) (g n)
    ∙ front-turn g p v n (λ k l. empty k (omega arith)) (λ k l. full k (omega arith)) (front_or d (g n))
    ∙ front-step p n v d (g n) (empty n (omega arith)) (λ t. full n (omega arith) t d)

-- that of items, one for each that passes
pub front-passed : (p : ℕ → Bool) (item : ℕ → TableVerdict) (n : ℕ) (d : TableVerdict)
    → front_or d (passed p item n) ≡ pick (ltb (first p 0 n) n) (item (first p 0 n)) d
front-passed p item n d = front-turn (λ k. pick (p k) (item k ∷ []) []) p item n (λ k l e. rw e) (λ k l e x. rw e) d

-- ---- how often

pub times-append : (v : TableVerdict) (l m : List TableVerdict) → times v (l ++ m) ≡ times v l + times v m
times-append v [] m = omega arith
times-append v (w ∷ l) m = omega (arith, times-append v l m)

module _ (v : TableVerdict) (g : ℕ → List TableVerdict) where
  times-turn : (n : ℕ) → times v (in_turn g n) ≡ sum (λ k. times v (g k)) n
  unfolding in_turn sum
  times-turn zero = refl
  times-turn (suc n) = omega (arith, times-append v (in_turn g n) (g n), times-turn n)

  -- in one of the lists alone
  pub times-one : (c n : ℕ) → ((j : ℕ) → (j ≡ c → ⊥) → times v (g j) ≡ 0) → times v (in_turn g n) ≡ pick (ltb c n) (times v (g c)) 0
  times-one c n h = times-turn n ∙ sum-single (λ k. times v (g k)) c n h

  -- in none of them
  pub times_none : (n : ℕ) → ((j : ℕ) → times v (g j) ≡ 0) → times v (in_turn g n) ≡ 0
  unfolding in_turn
  times_none zero h = refl
  times_none (suc n) h = omega (arith, times-append v (in_turn g n) (g n), times_none n h, h n)

pub times-item : (v w : TableVerdict) (b : Bool) → times v (pick b (w ∷ []) []) ≡ bit (b && same v w)
times-item v w true = omega arith
times-item v w false = refl
