-- Ends of a search, one after the other: tries made before, and what is sought where the first found nothing. Assumes nothing.
use mathlib.Core.Path.{◌≡◌, refl, sym, ap}
use Prim.Native.Nat.{ℕ, ◌+◌}
use native.Mathlib.Omega.{arith}
use Rattle.tries.specs.Search.{End, plan_found, none_exists, tries_of, after_tries, or_next}

pub after-zero : (r : End) → after_tries 0 r ≡ r
unfolding after_tries
after-zero (plan_found qs n) = ap (plan_found qs) (let e : 0 + n ≡ n = omega arith in e)
after-zero (none_exists n) = ap none_exists (let e : 0 + n ≡ n = omega arith in e)

pub after-after : (m n : ℕ) (r : End) → after_tries m (after_tries n r) ≡ after_tries (m + n) r
unfolding after_tries
after-after m n (plan_found qs k) = ap (plan_found qs) (let e : m + (n + k) ≡ m + n + k = omega arith in e)
after-after m n (none_exists k) = ap none_exists (let e : m + (n + k) ≡ m + n + k = omega arith in e)

pub after-else : (m : ℕ) (a b : End) → or_next (after_tries m a) b ≡ after_tries m (or_next a b)
unfolding after_tries or_next
after-else m (plan_found qs k) b = refl
after-else m (none_exists k) b = sym (after-after m k b)

pub else-else : (a b c : End) → or_next (or_next a b) c ≡ or_next a (or_next b c)
unfolding or_next
else-else (plan_found qs k) b c = refl
else-else (none_exists k) b c = after-else k b c

pub else-full : (a : End) → or_next a (none_exists 0) ≡ a
unfolding or_next after_tries
else-full (plan_found qs k) = refl
else-full (none_exists k) = ap none_exists (let e : k + 0 ≡ k = omega arith in e)

pub full-else : (b : End) → or_next (none_exists 0) b ≡ b
unfolding or_next
full-else b = after-zero b

pub tries-after : (m : ℕ) (r : End) → tries_of (after_tries m r) ≡ m + tries_of r
unfolding after_tries
tries-after m (plan_found qs k) = refl
tries-after m (none_exists k) = refl
