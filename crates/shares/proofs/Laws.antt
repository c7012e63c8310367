-- Rounding up is exact, the delay bound is never above T + p, and what a fair flow's answer is. Rounding up is the least number of b's that make a:
-- enough of them by the division's remainder, and no more since one less is below a. Assumes nothing.
use Prim.Native.Nat.{ℕ, zero, suc, ◌+◌, ◌*◌, ◌/◌, ◌%◌, ◌≤◌, ◌<◌}
use mathlib.Core.Bool.{Bool, true, false}
use mathlib.Core.Logic.{⊎_elim}
use mathlib.Core.Path.{◌≡◌, refl, sym}
use native.Mathlib.Nat.{div-add-mod', div-lt_iff_lt-mul, lt-div-mul-add, mul_comm, mul-le-mul}
use native.Mathlib.Nat.{mul-mod_left, add-mul, zero-mul, one-mul, eq-or-lt_of_le, le_refl, le_trans}
use lib.Dec.{leb, eqb}
use borrow.Author.Tests.{le-leb, lt-leb, eqb-true, eqb-false}
use native.Mathlib.Omega.{arith}
use Rattle.laws.specs.Choice.{pick}
use Rattle.std.specs.Prelude.{Ok, Err}
use Rattle.site.specs.Record.{up_to}
use Rattle.site.proofs.Faults.{up-to, up-to-is}
use Rattle.shares.specs.Share.{rounded_up, share_once, share_needed, queue_bound, delay_bound, shares_by, share_of}
use Rattle.shares.specs.Means.{Fair, Least}
use Rattle.shares.specs.declared.Fragments.{Fragments}
use Rattle.shares.specs.declared.Slots.{Slots}
use Rattle.shares.specs.declared.ShareError.TheVariants.{BigShare}

module _ (a b : ℕ) (some : 0 < b) where
  enough-at : (t : Bool) → eqb (a % b) 0 ≡ t → a ≤ (a / b + pick t 0 1) * b
  enough-at true e = let z : a % b ≡ 0 = eqb-true _ _ e in omega (arith, div-add-mod' a b, add-mul (a / b) 0 b, zero-mul b)
  enough-at false e = omega (arith, lt-div-mul-add {a = a} {b = b} some, add-mul (a / b) 1 b, one-mul b)

  least_at : (m : ℕ) (t : Bool) → a ≤ m * b → eqb (a % b) 0 ≡ t → a / b + pick t 0 1 ≤ m
  least_at m true h e =
      let l : a < (m + 1) * b = omega (arith, add-mul m 1 b, one-mul b) in
      omega (arith, (div-lt_iff_lt-mul {k = b} {x = a} {y = m + 1} some).1 l)
  least_at m false h e =
      let n : a ≡ m * b → ⊥ = λ q. eqb-false (a % b) 0 e (rw q (mul-mod_left m b)) in
      let l : a < m * b = ⊎_elim (λ q. absurd (n q)) (λ q. q) (eq-or-lt_of_le h) in
      omega (arith, (div-lt_iff_lt-mul {k = b} {x = a} {y = m} some).1 l)

-- a / b rounded up is enough of b's to make a ..
pub up-enough : (a b : ℕ) → 0 < b → a ≤ rounded_up a b * b
unfolding rounded_up
up-enough a b h = enough-at a b h (eqb (a % b) 0) refl

-- .. and the least such number
pub up_least : (a b m : ℕ) → 0 < b → a ≤ m * b → rounded_up a b ≤ m
unfolding rounded_up
up_least a b m h e = least_at a b h m (eqb (a % b) 0) e refl

pub up-is-least : (a b : ℕ) → 0 < b → Least a b (rounded_up a b)
up-is-least a b h = record { enough = up-enough a b h; least = λ n. up_least a b n h }

pub up_pos : (a b : ℕ) → 0 < a → 0 < b → 0 < rounded_up a b
up_pos a b ha hb = pos (rounded_up a b) (up-enough a b hb)
  where
    pos : (q : ℕ) → a ≤ q * b → 0 < q
    pos zero h = omega arith
    pos (suc q) h = omega arith

-- k times a number is no less than the number
pub times-most : (k n : ℕ) → 1 ≤ k → n ≤ k * n
times-most k n h = omega (arith, mul-le-mul h (le_refl n), one-mul n)

-- rounded up is never above the number itself
pub up-most : (a b : ℕ) → 0 < b → rounded_up a b ≤ a
up-most a b h = up_least a b a h (omega (arith, times-most b a h, mul_comm b a))

-- the old share is enough for the bursts of a period, and the least that is: cT ≤ sp
pub share-enough : (t c p : ℕ) → 1 ≤ p → c * t ≤ share_once t c p * p
share-enough t c p h = up-enough (c * t) p h

pub share-least : (t c p s : ℕ) → 1 ≤ p → c * t ≤ s * p → share_once t c p ≤ s
share-least t c p s h e = up_least (c * t) p s h e

product : (t c : ℕ) → 1 ≤ t → 1 ≤ c → 0 < c * t
product t c ht hc = omega (arith, mul-le-mul hc ht)

-- "never above T + p"
pub delay-most : (t c p : ℕ) → 1 ≤ t → 1 ≤ c → 1 ≤ p → delay_bound t c p ≤ t + p
delay-most t c p ht hc hp =
    omega (
      arith,
      up_least (c * t) (share_once t c p) p (up_pos (c * t) p (product t c ht hc) hp) (rw (mul_comm p (share_once t c p)) (share-enough t c p hp)),
    )

-- what passes the first two refusals
module _ (t c p k : ℕ) (f : Fair t c p k) where
  pub fair-product-most : c * t ≤ 8388480
  fair-product-most = mul-le-mul f.burst.1 f.slots.1

  pub fair-pos : 0 < share_once t c p
  fair-pos = up_pos (c * t) p (product t c f.slots.0 f.burst.0) f.period.0

  -- the old share is at most all of a superframe's fragments, since the period is 1 at least
  pub fair-most : share_needed t c p k ≤ 33553920
  fair-most = mul-le-mul f.repeats.1 once-most
    where
      once-most : share_once t c p ≤ 8388480
      once-most = share-least t c p 8388480 f.period.0 (omega (arith, fair-product-most, times-most p 8388480 f.period.0, mul_comm p 8388480))

  pub fair-share : share_of t c p k ≡ pick (leb (share_needed t c p k) 65535)
      (Ok (shares_by (share_needed t c p k) (queue_bound t c p) (delay_bound t c p))) (Err BigShare)
  unfolding share_of
  fair-share = simp (up-to-is 128 t f.slots, up-to-is 65535 c f.burst, up-to-is 65535 p f.period, up-to-is 4 k f.repeats)

  pub fair-done : (s q : Fragments) (d : Slots) → share_needed t c p k ≤ 65535 → s.0 ≡ share_needed t c p k → q.0 ≡ queue_bound t c p
      → d.0 ≡ delay_bound t c p → Ok (s, q, d) ≡ share_of t c p k
  fair-done s q d h es eq ed = rw (fair-share, le-leb (share_needed t c p k) 65535 h)
      (λ i. Ok (shares_by (es i) (eq i) (ed i)))

-- ---- what the code asks of a flow whose four numbers passed their tests

tested : (t c p k : ℕ) → up_to 128 t ≡ true → up_to 65535 c ≡ true → up_to 65535 p ≡ true → up_to 4 k ≡ true → Fair t c p k
tested t c p k u v w x = record { slots = up-to _ _ u; burst = up-to _ _ v; period = up-to _ _ w; repeats = up-to _ _ x }

pub in_range : (most x : ℕ) → up_to most x ≡ true → (0 < x) × (x ≤ most)
in_range most x e = let h = up-to most x e in (omega (arith, h.0), h.1)

pub product_most : (t c : ℕ) → up_to 128 t ≡ true → up_to 65535 c ≡ true → c * t ≤ 8388480
product_most t c u v = mul-le-mul (up-to 65535 c v).1 (up-to 128 t u).1

pub once_some : (t c p : ℕ) → up_to 128 t ≡ true → up_to 65535 c ≡ true → up_to 65535 p ≡ true → 0 < rounded_up (c * t) p
once_some t c p u v w = up_pos (c * t) p (product t c (up-to 128 t u).0 (up-to 65535 c v).0) (up-to 65535 p w).0

pub sent_most : (t c p k : ℕ) → up_to 128 t ≡ true → up_to 65535 c ≡ true → up_to 65535 p ≡ true → up_to 4 k ≡ true
    → k * rounded_up (c * t) p ≤ 33553920
sent_most t c p k u v w x = fair-most t c p k (tested t c p k u v w x)

pub once_sent : (k n : ℕ) → up_to 4 k ≡ true → n ≤ k * n
once_sent k n x = times-most k n (up-to 4 k x).0

pub time_most : (t c n : ℕ) → up_to 128 t ≡ true → up_to 65535 c ≡ true → 0 < n → rounded_up (c * t) n ≤ 8388480
time_most t c n u v some = le_trans (up-most (c * t) n some) (product_most t c u v)

pub flow_big : (t c p k : ℕ) → up_to 128 t ≡ true → up_to 65535 c ≡ true → up_to 65535 p ≡ true → up_to 4 k ≡ true
    → 65535 < k * rounded_up (c * t) p → share_of t c p k ≡ Err BigShare
flow_big t c p k u v w x over = rw (fair-share t c p k (tested t c p k u v w x), lt-leb (share_needed t c p k) 65535 over)

pub flow_done : (t c p k : ℕ) (s q : Fragments) (d : Slots) → up_to 128 t ≡ true → up_to 65535 c ≡ true → up_to 65535 p ≡ true → up_to 4 k ≡ true
    → s.0 ≤ 65535 → s.0 ≡ share_needed t c p k → q.0 ≡ queue_bound t c p → d.0 ≡ delay_bound t c p → share_of t c p k ≡ Ok (s, q, d)
flow_done t c p k s q d u v w x few es eq ed = sym (fair-done t c p k (tested t c p k u v w x) s q d (omega (arith, es, few)) es eq ed)

pub ruleset flows = (in_range, product_most, once_some, sent_most, once_sent, time_most, flow_big, flow_done)
