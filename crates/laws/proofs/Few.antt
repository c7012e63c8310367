-- The first few of the numbers that pass a test: how many they are, when a loop that counts down what is left takes a number,
-- and that none is taken once nothing is left.
-- Assumes nothing.
use mathlib.Core.Path.{◌≡◌, refl, sym, ap, ◌∙◌}
use mathlib.Core.Bool.{Bool, true, false, ◌&&◌, and-false}
use mathlib.Core.Logic.{⊎_elim}
use Prim.Native.Nat.{ℕ, ◌+◌, ◌-◌, ◌≤◌, min}
use native.Mathlib.Omega.{arith}
use lib.Dec.{ltb}
use borrow.Author.Tests.{lt-ltb, le-ltb, ltb-true, ltb-false}
use Rattle.laws.specs.Sum.{bit, count}
use Rattle.laws.specs.Few.{first_few}
use Rattle.laws.proofs.Choice.{cases}
use Rattle.laws.proofs.Sums.{sum-eq, sum_more, sum-up, count-first}

pub few-count : (p : ℕ → Bool) (l n : ℕ) → count (first_few p l) n ≡ min l (count p n)
few-count = count-first

-- only the numbers up to k tell
pub few-eq : (p q : ℕ → Bool) (l k : ℕ) → ((j : ℕ) → j ≤ k → p j ≡ q j) → first_few p l k ≡ first_few q l k
few-eq p q l k h =
    let c : count p k ≡ count q k = sum-eq (λ j. bit (p j)) (λ j. bit (q j)) k (λ j m. ap bit (h j (omega arith))) in
    let e = h k (omega arith) in
    λ x. e x && ltb (c x) l

none_left : (b : Bool) (c l : ℕ) → l ≤ c → (b && ltb c l) ≡ false
none_left b c l h = rw (le-ltb c l h, and-false)

-- nothing is left
pub few_past : (p : ℕ → Bool) (l m k : ℕ) → l ≤ count p m → m ≤ k → first_few p l k ≡ false
few_past p l m k h g = none_left (p k) (count p k) l (omega (arith, sum-up (λ j. bit (p j)) m k g))

-- ---- a loop that counts down what is left of l

module _ (p : ℕ → Bool) (l k : ℕ) {left : ℕ} (is : left ≡ l - count p k) where
  pub few-test : (p k && ltb 0 left) ≡ first_few p l k
  few-test =
      ap (λ b. p k && b)
      (⊎_elim
      (λ (e : ltb (count p k) l ≡ true). lt-ltb 0 left (omega (arith, ltb-true (count p k) l e)) ∙ sym e)
      (λ (e : ltb (count p k) l ≡ false). le-ltb 0 left (omega (arith, ltb-false (count p k) l e)) ∙ sym e)
      (cases (ltb (count p k) l)))

  one_less : (t b : Bool) → p k ≡ t → ltb (count p k) l ≡ b → left - bit (t && b) ≡ l - count p (k + 1)
  one_less true true e f = let c : bit (p k) ≡ 1 = ap bit e in omega (arith, sum_more (λ j. bit (p j)) k, ltb-true (count p k) l f)
  one_less true false e f = let c : bit (p k) ≡ 1 = ap bit e in omega (arith, sum_more (λ j. bit (p j)) k, ltb-false (count p k) l f)
  one_less false b e f = let c : bit (p k) ≡ 0 = ap bit e in omega (arith, sum_more (λ j. bit (p j)) k)

  -- what is left after number k
  pub few-less : left - bit (first_few p l k) ≡ l - count p (k + 1)
  few-less = one_less (p k) (ltb (count p k) l) refl refl

  some_left : (t b : Bool) → ltb (count p k) l ≡ b → bit (t && b) ≤ left
  some_left true true f = omega (arith, ltb-true (count p k) l f)
  some_left true false f = omega arith
  some_left false b f = omega arith

  pub few-some : bit (first_few p l k) ≤ left
  few-some = some_left (p k) (ltb (count p k) l) refl
