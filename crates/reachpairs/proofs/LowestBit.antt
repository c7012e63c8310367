-- The lowest bit of a row. As many zeros stand below it as its place says, and `x & (x - 1)` is the row without it: the pairs of a row are the pair of its
-- lowest bit and those of what is left. The argument goes up from bit to bit until it meets the lowest one. Assumes nothing.
use Prim.Native.Nat.{ℕ, zero, suc, ◌+◌, ◌-◌, ◌*◌, ◌/◌, ◌%◌, ◌^◌, ◌≤◌, ◌<◌, min}
use mathlib.Core.Path.{◌≡◌, refl, sym, ap, ap₂, ◌∙◌}
use mathlib.Core.List.{List, [], ◌∷◌, ◌++◌}
use native.Mathlib.Nat.{add-zero, zero-min, min-zero, zero-div, div-eq_of_lt, two-pow-succ}
use native.Mathlib.Omega.{arith}
use lib.ListN.{length}
use lib.Seq.{sets}
use lib.Bits.{bit_and, and_step, and_self}
use lib.Count.{count_trailing_zeros, under}
use borrow.Author.Tests.{eq-eqb, ne_eqb}
use Rattle.laws.proofs.Stores.{sets-append}
use Rattle.reachpairs.specs.Pairs.{pair_of, pairs_from}
use Rattle.reachpairs.specs.Loop.{row_from}
use Rattle.reachpairs.proofs.RowLaws.{pair_set, pair-clear, left-half, row-end}

-- ---- the number without its lowest bit, from bit b on

and-odd : (y : ℕ) → y % 2 ≡ 1 → bit_and y (y - 1) ≡ y / 2 * 2
and-odd y h =
    let e : (y - 1) / 2 ≡ y / 2 = omega arith in
    let f : (y - 1) % 2 ≡ 0 = omega arith in
    let s : bit_and y (y - 1) ≡ bit_and (y / 2) (y / 2) * 2 + min (y % 2) 0 = and_step y (y - 1) ∙ ap₂
    (λ (u v : ℕ). bit_and (y / 2) u * 2 + min (y % 2) v) e f in
    s ∙ ap₂ (λ (u v : ℕ). u * 2 + v) (and_self (y / 2)) (min-zero (y % 2)) ∙ add-zero (y / 2 * 2)

and-even : (y : ℕ) → y % 2 ≡ 0 → (y ≡ 0 → ⊥) → bit_and y (y - 1) ≡ bit_and (y / 2) (y / 2 - 1) * 2
and-even y h some =
    let e : (y - 1) / 2 ≡ y / 2 - 1 = omega arith in
    and_step y (y - 1)
    ∙ ap₂ (λ (u v : ℕ). bit_and (y / 2) u * 2 + min v ((y - 1) % 2)) e h
    ∙ ap (λ (v : ℕ). bit_and (y / 2) (y / 2 - 1) * 2 + v) (zero-min ((y - 1) % 2))
    ∙ add-zero (bit_and (y / 2) (y / 2 - 1) * 2)

-- ---- the place of the lowest bit

under-lt : (d t n : ℕ) → (d ≡ 0 → t < n) → under d t < suc n
under-lt zero t n h = omega (arith, h refl)
under-lt (suc d) t n h = omega arith

pub trailing_lt : (n y : ℕ) → y < 2 ^ n → (y ≡ 0 → ⊥) → count_trailing_zeros n y < n
unfolding count_trailing_zeros
trailing_lt zero y l some = absurd (some (omega arith))
trailing_lt (suc n) y l some =
    under-lt (y % 2) (count_trailing_zeros n (y / 2)) n
    (λ e. trailing_lt n (y / 2) (omega (arith, two-pow-succ n)) (λ z. some (omega arith)))

-- ---- the pairs

-- a row's pairs from bit b on are those of its bits from there on
row_same : (x y a n b : ℕ) → b + n ≤ 32 → x / 2 ^ b ≡ y / 2 ^ b → row_from x (32 * a + b) n ≡ row_from y (32 * a + b) n
unfolding row_from pair_of
row_same x y a zero b h e = refl
row_same x y a (suc n) b h e =
    let m : (32 * a + b) % 32 ≡ b = omega arith in
    let f : 32 * a + b + 1 ≡ 32 * a + (b + 1) = omega arith in
    let g : x / 2 ^ (b + 1) ≡ y / 2 ^ (b + 1) = sym (left-half x b) ∙ ap (λ (v : ℕ). v / 2) e ∙ left-half y b in
    rw (m, f, e, row_same x y a n (b + 1) (omega arith) g)

module _ (x a b : ℕ) (h : b < 32) where
  set_at : x / 2 ^ b % 2 ≡ 1 → pair_of x (32 * a + b) ≡ (a + 1) ∷ (b + 1) ∷ []
  set_at e =
      let m : (32 * a + b) % 32 ≡ b = omega arith in
      let d : (32 * a + b) / 32 ≡ a = omega arith in
      pair_set x (32 * a + b) (rw m (eq-eqb _ 1 e)) ∙ ap₂ (λ (u v : ℕ). (u + 1) ∷ (v + 1) ∷ []) d m

  clear_at : x / 2 ^ b % 2 ≡ 0 → pair_of x (32 * a + b) ≡ []
  clear_at e =
      let m : (32 * a + b) % 32 ≡ b = omega arith in
      pair-clear x (32 * a + b) (rw m (ne_eqb (x / 2 ^ b % 2) 1 (λ d. omega arith)))

-- z is x without its lowest bit, which is not below bit b
abbrev Lowest : ℕ → ℕ → ℕ → ℕ → ℕ → Type 0
Lowest x z a n b =
    row_from x (32 * a + b) n ≡ (a + 1) ∷ (b + count_trailing_zeros n (x / 2 ^ b) + 1) ∷ row_from z (32 * a + b) n

module _ (x z a n b : ℕ) (h : b + suc n ≡ 32) (less : z / 2 ^ b ≡ bit_and (x / 2 ^ b) (x / 2 ^ b - 1)) where
  at-lowest : x / 2 ^ b % 2 ≡ 1 → Lowest x z a (suc n) b
  unfolding row_from count_trailing_zeros
  at-lowest e =
      let f : 32 * a + b + 1 ≡ 32 * a + (b + 1) = omega arith in
      let half : z / 2 ^ b ≡ x / 2 ^ b / 2 * 2 = less ∙ and-odd (x / 2 ^ b) e in
      let even : z / 2 ^ b % 2 ≡ 0 = omega (arith, half) in
      let mid : x / 2 ^ b / 2 ≡ z / 2 ^ b / 2 = omega (arith, half) in
      let g : x / 2 ^ (b + 1) ≡ z / 2 ^ (b + 1) = sym (left-half x b) ∙ mid ∙ left-half z b in
      let s : row_from x (32 * a + b + 1) n ≡ row_from z (32 * a + b + 1) n = rw f (row_same x z a n (b + 1) (omega arith) g) in
      let p : b + under (x / 2 ^ b % 2) (count_trailing_zeros n (x / 2 ^ b / 2)) + 1 ≡ b + 1 =
      ap (λ (d : ℕ). b + under d (count_trailing_zeros n (x / 2 ^ b / 2)) + 1) e ∙ omega arith in
      ap (λ (l : List ℕ). l ++ row_from x (32 * a + b + 1) n) (set_at x a b (omega arith) e)
      ∙ ap₂ (λ (v : ℕ) (l : List ℕ). (a + 1) ∷ v ∷ l) (sym p)
      (s ∙ sym (ap (λ (l : List ℕ). l ++ row_from z (32 * a + b + 1) n) (clear_at z a b (omega arith) even)))

  above :
      x / 2 ^ b % 2 ≡ 0 → (x / 2 ^ b ≡ 0 → ⊥) →
      (z / 2 ^ (b + 1) ≡ bit_and (x / 2 ^ (b + 1)) (x / 2 ^ (b + 1) - 1) → Lowest x z a n (b + 1)) → Lowest x z a (suc n) b
  unfolding row_from count_trailing_zeros
  above e some rest =
      let f : 32 * a + b + 1 ≡ 32 * a + (b + 1) = omega arith in
      let twice : z / 2 ^ b ≡ bit_and (x / 2 ^ b / 2) (x / 2 ^ b / 2 - 1) * 2 = less ∙ and-even (x / 2 ^ b) e some in
      let even : z / 2 ^ b % 2 ≡ 0 = omega (arith, twice) in
      let half : z / 2 ^ b / 2 ≡ bit_and (x / 2 ^ b / 2) (x / 2 ^ b / 2 - 1) = omega (arith, twice) in
      let r : Lowest x z a n (b + 1) = rest (sym (left-half z b) ∙ half ∙ ap (λ (v : ℕ). bit_and v (v - 1)) (left-half x b)) in
      let p : b + under (x / 2 ^ b % 2) (count_trailing_zeros n (x / 2 ^ b / 2)) + 1 ≡ b + 1 + count_trailing_zeros n (x / 2 ^ (b + 1)) + 1 =
      ap₂ (λ (d v : ℕ). b + under d (count_trailing_zeros n v) + 1) e (left-half x b) ∙ omega arith in
      ap (λ (l : List ℕ). l ++ row_from x (32 * a + b + 1) n) (clear_at x a b (omega arith) e)
      ∙ ap (λ (q : ℕ). row_from x q n) f
      ∙ r
      ∙ ap₂ (λ (v : ℕ) (l : List ℕ). (a + 1) ∷ v ∷ l) (sym p)
      (ap (λ (q : ℕ). row_from z q n) (sym f) ∙ sym (ap (λ (l : List ℕ). l ++ row_from z (32 * a + b + 1) n) (clear_at z a b (omega arith) even)))

lowest :
    (x z a n b : ℕ) → b + n ≡ 32 → x < 2 ^ 32 → z / 2 ^ b ≡ bit_and (x / 2 ^ b) (x / 2 ^ b - 1) → (x / 2 ^ b ≡ 0 → ⊥) →
    Lowest x z a n b
lowest x z a zero b h l less some =
    let e : b ≡ 32 = omega arith in
    absurd (some (rw e (div-eq_of_lt l)))
lowest x z a (suc n) b h l less some = go (x / 2 ^ b % 2) refl (omega arith) (λ e. lowest x z a n (b + 1) (omega arith) l e)
  where
    go :
        (d : ℕ) → x / 2 ^ b % 2 ≡ d → d < 2 →
        (z / 2 ^ (b + 1) ≡ bit_and (x / 2 ^ (b + 1)) (x / 2 ^ (b + 1) - 1) → (x / 2 ^ (b + 1) ≡ 0 → ⊥) → Lowest x z a n (b + 1)) →
        Lowest x z a (suc n) b
    go zero e g rest = above x z a n b h less e some (λ u. rest u (λ v. some (omega (arith, left-half x b))))
    go (suc zero) e g rest = at-lowest x z a n b h less e
    go (suc (suc d)) e g rest = absurd (omega arith)

-- the pairs of a row that has a bit: the lowest bit's, and those of the row without it
row-lowest :
    (x a : ℕ) → x < 2 ^ 32 → (x ≡ 0 → ⊥) →
    row_from x (32 * a) 32 ≡ (a + 1) ∷ (count_trailing_zeros 32 x + 1) ∷ row_from (bit_and x (x - 1)) (32 * a) 32
row-lowest x a h some =
    let e : (y : ℕ) → y / 2 ^ 0 ≡ y = λ y. omega arith in
    let r = lowest x (bit_and x (x - 1)) a 32 0 refl h (e (bit_and x (x - 1)) ∙ ap (λ (v : ℕ). bit_and v (v - 1)) (sym (e x))) (λ z. some (sym (e x) ∙ z)) in
    ap (λ (q : ℕ). row_from x q 32) (sym (add-zero (32 * a)))
    ∙ r
    ∙ ap₂ (λ (v : ℕ) (l : List ℕ). (a + 1) ∷ v ∷ l)
    (ap (λ (v : ℕ). 0 + count_trailing_zeros 32 v + 1) (e x) ∙ omega arith)
    (ap (λ (q : ℕ). row_from (bit_and x (x - 1)) q 32) (add-zero (32 * a)))

-- a row that has none has no pair
pub row-empty : (a : ℕ) → row_from 0 (32 * a) 32 ≡ []
row-empty a =
    let e : 32 * a + 32 - 32 * a ≡ 32 = omega arith in
    rw e at (row-end 0 a (32 * a) (omega arith) (omega arith) (zero-div (2 ^ (32 * a - 32 * a))))

-- ---- turns and ends of the loops

module _ (x a : ℕ) (h : x < 2 ^ 32) (some : x ≡ 0 → ⊥) where
  pub lowest-length : length (row_from x (32 * a) 32) ≡ 2 + length (row_from (bit_and x (x - 1)) (32 * a) 32)
  lowest-length =
      let e = ap length (row-lowest x a h some) in
      omega (arith, e)

  pub lowest-put :
      (out : List ℕ) (k : ℕ) →
      sets (sets out k ((a + 1) ∷ (count_trailing_zeros 32 x + 1) ∷ [])) (k + 2) (row_from (bit_and x (x - 1)) (32 * a) 32) ≡ sets out k
      (row_from x (32 * a) 32)
  lowest-put out k =
      sym (ap (sets out k) (row-lowest x a h some)
      ∙ sets-append out k ((a + 1) ∷ (count_trailing_zeros 32 x + 1) ∷ []) (row_from (bit_and x (x - 1)) (32 * a) 32))

-- no bytes are left, so no pairs are
module _ (rows : List ℕ) (a k end : ℕ) (e : k + length (pairs_from rows (32 * a) (1024 - 32 * a)) ≡ end) where
  pub rows-done : end ≤ k → pairs_from rows (32 * a) (1024 - 32 * a) ≡ []
  rows-done l = nil (pairs_from rows (32 * a) (1024 - 32 * a)) (omega arith)
    where
      nil : (s : List ℕ) → length s ≡ 0 → s ≡ []
      nil [] z = refl
      nil (x ∷ s) z = absurd (omega arith)
