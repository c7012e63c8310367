-- Sums over a set of flows, where the set is built from its highest flow down.
--     total-split     a set of high flows and a set of low ones
--     total-step      one flow added
--     total-few       a number below 2 ^ n has only the first n flows
-- Assumes nothing.
use mathlib.Core.Path.{◌≡◌, refl, sym, ap, ap₂, ◌∙◌}
use Prim.Native.Nat.{ℕ, suc, ◌+◌, ◌-◌, ◌*◌, ◌/◌, ◌%◌, ◌^◌, ◌≤◌, ◌<◌, zero-le}
use mathlib.Core.Bool.{Bool, true, false}
use native.Mathlib.Omega.{arith}
use native.Mathlib.Nat.{zero-mod, mul-add-div_right, mul_assoc, add-mod_right, le_refl}
use lib.Bits.{block_odd}
use lib.Pow.{pow_pos, pow-add, shr-shr, split, high, mod-mod-pow, pow-lt}
use lib.Dec.{eqb}
use Rattle.laws.specs.Bits.{bit_at}
use Rattle.laws.specs.Choice.{pick}
use Rattle.laws.specs.Sum.{sum}
use Rattle.laws.proofs.Sums.{sum-le, sum-eq, sum-none, sum-split}
use Rattle.laws.proofs.Bits.{none_in}
use Rattle.laws.proofs.Choice.{pick_same}
use Rattle.admitting.specs.Best.{total}

-- ---- which flows are in a number

pub in-low : (a k y j : ℕ) → j < k → bit_at (a * 2 ^ k + y) j ≡ bit_at y j
in-low a k y j h =
    let m : ℕ = k - j - 1 in
    let e : k ≡ suc m + j = omega arith in
    let q : a * 2 ^ k ≡ a * 2 ^ suc m * 2 ^ j = ap (λ (n : ℕ). a * 2 ^ n) e ∙ ap (λ (n : ℕ). a * n) (pow-add 2 (suc m) j)
    ∙ sym (mul_assoc a (2 ^ suc m) (2 ^ j)) in
    ap (λ (n : ℕ). eqb n 1) (ap (λ (n : ℕ). (n + y) / 2 ^ j % 2) q ∙ ap (λ (n : ℕ). n % 2) (mul-add-div_right (pow_pos j) (a * 2 ^ suc m) y)
    ∙ block_odd a m (y / 2 ^ j))

pub in-high : (a k y j : ℕ) → y < 2 ^ k → bit_at (a * 2 ^ k + y) (k + j) ≡ bit_at a j
in-high a k y j h = ap (λ (n : ℕ). eqb n 1) (ap (λ (n : ℕ). n % 2) (sym (shr-shr (a * 2 ^ k + y) k j) ∙ ap (λ (n : ℕ). n / 2 ^ j) (high a k h)))

-- ---- sums over sets

pub total-none : (f : ℕ → ℕ) (n : ℕ) → total f n 0 ≡ 0
total-none f n = sum-eq (λ k. pick (bit_at 0 k) (f k) 0) (λ _. 0) n (λ k _. rw (none_in k) refl) ∙ sum-none n

pub total-zero : (n x : ℕ) → total (λ _. 0) n x ≡ 0
total-zero n x = sum-eq (λ k. pick (bit_at x k) 0 0) (λ _. 0) n (λ k _. pick_same (bit_at x k) 0) ∙ sum-none n

gate-le : (b : Bool) (v : ℕ) → pick b v 0 ≤ v
gate-le true v = le_refl v
gate-le false v = zero-le

pub total-most : (f : ℕ → ℕ) (n x : ℕ) → total f n x ≤ sum f n
total-most f n x = sum-le (λ k. pick (bit_at x k) (f k) 0) f n (λ k _. gate-le (bit_at x k) (f k))

pub total-eq : (f g : ℕ → ℕ) (n x : ℕ) → ((k : ℕ) → k < n → f k ≡ g k) → total f n x ≡ total g n x
total-eq f g n x h = sum-eq (λ k. pick (bit_at x k) (f k) 0) (λ k. pick (bit_at x k) (g k) 0) n (λ k l. ap (λ (v : ℕ). pick (bit_at x k) v 0) (h k l))

pub total-split : (f : ℕ → ℕ) (k n a y : ℕ) → y < 2 ^ k → total f (k + n) (a * 2 ^ k + y) ≡ total f k y + total (λ j. f (k + j)) n a
total-split f k n a y h =
    omega (
      arith,
      sum-split (λ j. pick (bit_at (a * 2 ^ k + y) j) (f j) 0) k n,
      sum-eq (λ j. pick (bit_at (a * 2 ^ k + y) j) (f j) 0) (λ j. pick (bit_at y j) (f j) 0) k (λ j l. ap (λ b. pick b (f j) 0) (in-low a k y j l)),
      sum-eq (λ j. pick (bit_at (a * 2 ^ k + y) (k + j)) (f (k + j)) 0) (λ j. pick (bit_at a j) (f (k + j)) 0) n
          (λ j _. ap (λ b. pick b (f (k + j)) 0) (in-high a k y j h)),
    )

-- a set of flows from k on
multiple : (x k : ℕ) → x % 2 ^ k ≡ 0 → x / 2 ^ k * 2 ^ k + 0 ≡ x
multiple x k h = ap (λ (n : ℕ). x / 2 ^ k * 2 ^ k + n) (sym h) ∙ split x k

module _ (f : ℕ → ℕ) (n k x : ℕ) (le : k ≤ n) (h : x % 2 ^ k ≡ 0) where
  high_part : ℕ
  high_part = total (λ j. f (k + j)) (n - k) (x / 2 ^ k)

  apart : (y : ℕ) → y < 2 ^ k → total f n (x + y) ≡ total f k y + high_part
  unfolding high_part
  apart y l =
      let e : k + (n - k) ≡ n = omega arith in
      let q : x / 2 ^ k * 2 ^ k + y ≡ x + y = omega (arith, multiple x k h) in
      rw (e, q) at (total-split f k (n - k) (x / 2 ^ k) y l)

  alone : total f n x ≡ high_part
  alone =
      let e : x + 0 ≡ x = omega arith in
      let q : total f n x ≡ total f k 0 + high_part = rw e at (apart 0 (pow_pos k)) in
      omega (arith, total-none f k)

  pub total-grow : (y : ℕ) → y < 2 ^ k → (total f n x ≤ total f n (x + y)) × (total f n (x + y) ≤ total f n x + sum f k)
  total-grow y l = (omega (arith, apart y l, alone), omega (arith, apart y l, alone, total-most f k y))

pub multiple-less : (x k : ℕ) → x % 2 ^ suc k ≡ 0 → x % 2 ^ k ≡ 0
multiple-less x k h =
    let e : 1 + k ≡ suc k = omega arith in
    sym (mod-mod-pow x 1 k) ∙ ap (λ (n : ℕ). x % 2 ^ n % 2 ^ k) e ∙ ap (λ (n : ℕ). n % 2 ^ k) h ∙ zero-mod (2 ^ k)

pub multiple-more : (x k : ℕ) → x % 2 ^ suc k ≡ 0 → (x + 2 ^ k) % 2 ^ k ≡ 0
multiple-more x k h = add-mod_right x (2 ^ k) ∙ multiple-less x k h

one-flow : (f : ℕ → ℕ) (k : ℕ) → total f (suc k) (2 ^ k) ≡ f k
unfolding sum
one-flow f k =
    let e : k + 1 ≡ suc k = omega arith in
    let q : 1 * 2 ^ k + 0 ≡ 2 ^ k = omega arith in
    let z : k + 0 ≡ k = omega arith in
    let t : total f (suc k) (2 ^ k) ≡ total f k 0 + total (λ j. f (k + j)) 1 1 =
    sym (ap₂ (total f) e q) ∙ total-split f k 1 1 0 (pow_pos k) in
    omega (arith, total-none f k, ap f z)

pub total-step : (f : ℕ → ℕ) (n k x : ℕ) → k < n → x % 2 ^ suc k ≡ 0 → total f n (x + 2 ^ k) ≡ total f n x + f k
total-step f n k x l h =
    omega (
      arith,
      apart f n (suc k) x (omega arith) h (2 ^ k) (pow-lt (omega arith)),
      alone f n (suc k) x (omega arith) h,
      one-flow f k,
    )

pub total-few : (f : ℕ → ℕ) (n m x : ℕ) → n ≤ m → x < 2 ^ n → total f m x ≡ total f n x
total-few f n m x l h =
    let e : n + (m - n) ≡ m = omega arith in
    let q : 0 * 2 ^ n + x ≡ x = omega arith in
    let t : total f m x ≡ total f n x + total (λ j. f (n + j)) (m - n) 0 = rw (e, q) at (total-split f n (m - n) 0 x h) in
    omega (arith, total-none (λ j. f (n + j)) (m - n))
