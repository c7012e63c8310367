-- The laws of `decimal`: one digit, a digit more, and how long it can be. Assumes nothing.
use Prim.Native.Nat.{ℕ, zero, suc, ◌+◌, ◌-◌, ◌*◌, ◌/◌, ◌%◌, ◌^◌, ◌≤◌, ◌<◌}
use mathlib.Core.Path.{◌≡◌, refl, ap, ◌∙◌}
use mathlib.Core.Bool.{Bool, true, false}
use mathlib.Core.List.{List, [], ◌∷◌, ◌++◌, append_assoc}
use native.Mathlib.Nat.{zero-add, suc-add, pow-suc}
use native.Mathlib.Omega.{arith}
use native.Mathlib.Decide.{dec_lt}
use lib.ListN.{length, length-append}
use lib.Dec.{ltb}
use borrow.Author.Tests.{lt-ltb, le-ltb}
use Rattle.laws.specs.Choice.{pick}
use Rattle.laws.specs.Sum.{bit}
use Rattle.text.specs.Decimal.{digits_of, decimal}

one : (k x : ℕ) → x < 10 → digits_of k x ≡ (48 + x % 10) ∷ []
unfolding digits_of
one zero x h = refl
one (suc k) x h = rw (lt-ltb x 10 h)

-- more digits than x are never wanted
spare : (k x : ℕ) → x ≤ k → digits_of (suc k) x ≡ digits_of k x
unfolding digits_of
spare zero x h = one (suc zero) x (omega arith)
spare (suc k) x h = ap (λ (l : List ℕ). pick (ltb x 10) [] l ++ ((48 + x % 10) ∷ [])) (spare k (x / 10) (omega arith))

enough : (d x : ℕ) → digits_of (d + x) x ≡ decimal x
unfolding decimal
enough zero x = ap (λ (k : ℕ). digits_of k x) (zero-add x)
enough (suc d) x = ap (λ (k : ℕ). digits_of k x) (suc-add d x) ∙ spare (d + x) x (omega arith) ∙ enough d x

pub decimal-one : (x : ℕ) → x < 10 → decimal x ≡ (48 + x) ∷ []
unfolding decimal
decimal-one x h = one x x h ∙ ap (λ (r : ℕ). (48 + r) ∷ []) (omega arith)

first : (k x : ℕ) → x ≡ suc k → decimal x ≡ pick (ltb x 10) [] (digits_of k (x / 10)) ++ ((48 + x % 10) ∷ [])
unfolding decimal digits_of
first k x e = ap (λ (j : ℕ). digits_of j x) e

pub decimal-more : (x : ℕ) → 10 ≤ x → decimal x ≡ decimal (x / 10) ++ ((48 + x % 10) ∷ [])
decimal-more x h =
    let e : x ≡ suc (x - 1 - x / 10 + x / 10) = omega arith in
    first (x - 1 - x / 10 + x / 10) x e
    ∙ rw (le-ltb x 10 h) (ap (λ (l : List ℕ). l ++ ((48 + x % 10) ∷ [])) (enough (x - 1 - x / 10) (x / 10)))

-- two digits, and two digits more
pub decimal-two : (x : ℕ) → 10 ≤ x → x < 100 → decimal x ≡ (48 + x / 10) ∷ (48 + x % 10) ∷ []
decimal-two x h l = decimal-more x h ∙ ap (λ (l : List ℕ). l ++ ((48 + x % 10) ∷ [])) (decimal-one (x / 10) (omega arith))

pub decimal-hundreds : (x : ℕ) → 100 ≤ x → decimal x ≡ decimal (x / 100) ++ ((48 + x % 100 / 10) ∷ (48 + x % 10) ∷ [])
decimal-hundreds x h =
    let e : x / 10 / 10 ≡ x / 100 = omega arith in
    let d : x / 10 % 10 ≡ x % 100 / 10 = omega arith in
    decimal-more x (omega arith)
    ∙ ap (λ (l : List ℕ). l ++ ((48 + x % 10) ∷ [])) (decimal-more (x / 10) (omega arith))
    ∙ append_assoc (decimal (x / 10 / 10)) ((48 + x / 10 % 10) ∷ []) ((48 + x % 10) ∷ [])
    ∙ rw (e, d)

-- and their lengths
pub two-long : (x : ℕ) → 10 ≤ x → x < 100 → length (decimal x) ≡ 2
two-long x h l = ap length (decimal-two x h l)

pub hundreds-long : (x : ℕ) → 100 ≤ x → length (decimal x) ≡ length (decimal (x / 100)) + 2
hundreds-long x h = ap length (decimal-hundreds x h) ∙ length-append (decimal (x / 100)) ((48 + x % 100 / 10) ∷ (48 + x % 10) ∷ [])

pub one-long : (x : ℕ) → x < 10 → length (decimal x) ≡ 1
one-long x h = ap length (decimal-one x h)

pub more-long : (x : ℕ) → 10 ≤ x → length (decimal x) ≡ length (decimal (x / 10)) + 1
more-long x h = ap length (decimal-more x h) ∙ length-append (decimal (x / 10)) ((48 + x % 10) ∷ [])

-- how many digits there can be
long : (n k x : ℕ) → x < 10 ^ suc n → length (digits_of k x) ≤ suc n
unfolding digits_of
long n zero x h = omega arith
long zero (suc k) x h = rw (one (suc k) x h) (omega arith)
long (suc n) (suc k) x h = go (ltb x 10) (long n k (x / 10) (let e : 10 ^ suc (suc n) ≡ 10 ^ suc n * 10 = pow-suc 10 (suc n) in omega arith))
  where
    go : (b : Bool) → length (digits_of k (x / 10)) ≤ suc n → length (pick b [] (digits_of k (x / 10)) ++ ((48 + x % 10) ∷ [])) ≤ suc (suc n)
    go true r = omega arith
    go false r = rw length-append (omega arith)

pub decimal-long : (n x : ℕ) → x < 10 ^ suc n → length (decimal x) ≤ suc n
unfolding decimal
decimal-long n x h = long n x x h

-- of a number of at most five digits: one, and one more for each of 9, 99, 999 and 9,999 that it is above
pub digits_sum : (x : ℕ) → x < 100000 → length (decimal x) ≡ 1 + bit (ltb 9 x) + bit (ltb 99 x) + bit (ltb 999 x) + bit (ltb 9999 x)
digits_sum x few = one-digit (dec_lt x 10)
  where
    five : 10000 ≤ x → length (decimal x) ≡ 1 + bit (ltb 9 x) + bit (ltb 99 x) + bit (ltb 999 x) + bit (ltb 9999 x)
    five h =
        rw (lt-ltb 9 x (omega arith), lt-ltb 99 x (omega arith), lt-ltb 999 x (omega arith), lt-ltb 9999 x (omega arith))
        (omega (arith, hundreds-long x (omega arith), hundreds-long (x / 100) (omega arith), one-long (x / 100 / 100) (omega arith)))

    four-digits : Dec (x < 10000) → 1000 ≤ x → length (decimal x) ≡ 1 + bit (ltb 9 x) + bit (ltb 99 x) + bit (ltb 999 x) + bit (ltb 9999 x)
    four-digits (yes h) l =
        rw (lt-ltb 9 x (omega arith), lt-ltb 99 x (omega arith), lt-ltb 999 x (omega arith), le-ltb 9999 x (omega arith))
        (omega (arith, hundreds-long x (omega arith), two-long (x / 100) (omega arith) (omega arith)))
    four-digits (no h) l = five (omega arith)

    three-digits : Dec (x < 1000) → 100 ≤ x → length (decimal x) ≡ 1 + bit (ltb 9 x) + bit (ltb 99 x) + bit (ltb 999 x) + bit (ltb 9999 x)
    three-digits (yes h) l =
        rw (lt-ltb 9 x (omega arith), lt-ltb 99 x (omega arith), le-ltb 999 x (omega arith), le-ltb 9999 x (omega arith))
        (omega (arith, hundreds-long x (omega arith), one-long (x / 100) (omega arith)))
    three-digits (no h) l = four-digits (dec_lt x 10000) (omega arith)

    two_digits : Dec (x < 100) → 10 ≤ x → length (decimal x) ≡ 1 + bit (ltb 9 x) + bit (ltb 99 x) + bit (ltb 999 x) + bit (ltb 9999 x)
    two_digits (yes h) l =
        rw (lt-ltb 9 x (omega arith), le-ltb 99 x (omega arith), le-ltb 999 x (omega arith), le-ltb 9999 x (omega arith)) (two-long x l h)
    two_digits (no h) l = three-digits (dec_lt x 1000) (omega arith)

    one-digit : Dec (x < 10) → length (decimal x) ≡ 1 + bit (ltb 9 x) + bit (ltb 99 x) + bit (ltb 999 x) + bit (ltb 9999 x)
    one-digit (yes h) =
        rw (le-ltb 9 x (omega arith), le-ltb 99 x (omega arith), le-ltb 999 x (omega arith), le-ltb 9999 x (omega arith)) (one-long x h)
    one-digit (no h) = two_digits (dec_lt x 100) (omega arith)
