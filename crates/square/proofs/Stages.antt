-- A stage takes each bit of its result from one place of what it is given:
-- one digit of the bit's place is traded for the last digit of its row, which becomes the first.
-- After five stages that place is the turned one. Both that a mask fits its stage and that five stages turn the places are tests over all of them,
-- which are computed.
-- Assumes nothing.
use mathlib.Core.Path.{◌≡◌, refl, sym, ap, ap₂, ◌∙◌}
use mathlib.Core.Bool.{Bool, true, false, ◌&&◌, not, and-eq-true_iff}
use mathlib.Core.List.{List}
use mathlib.Core.Logic.{◌⊎◌, inl, inr, ⊎_elim}
use Prim.Native.Nat.{ℕ, zero, suc, ◌+◌, ◌*◌, ◌-◌, ◌/◌, ◌%◌, ◌^◌, ◌≤◌, ◌<◌}
use native.Mathlib.Nat.{mod-lt}
use native.Mathlib.Omega.{arith}
use lib.Bits.{bit_and, bit_xor, and_zero_r, xor_zero_r, xor_comm, xor_lt}
use lib.Dec.{eqb, ltb, lit<}
use lib.ListN.{get_or}
use Rattle.laws.specs.Bits.{bit_at, bit_in, word_of}
use Rattle.laws.specs.Choice.{pick}
use Rattle.laws.specs.Sum.{any}
use Rattle.laws.specs.Part.{list_of}
use Rattle.laws.proofs.Stores.{list_at, list-eq}
use Rattle.laws.proofs.Words.{word-bits, word-eq}
use Rattle.laws.proofs.Any.{any_none}
use borrow.Author.Tests.{eqb-true, ltb-true, ltb-false, not-false}
use Rattle.laws.proofs.Choice.{cases}
use Rattle.laws.proofs.Bits.{xor-bit, and-bit, shr-bit, shl-bit, shl-bit-below, mod-bit}
use Rattle.square.specs.Turned.{turned}
use Rattle.square.specs.Stage.{swap_bits, low_of, high_of, crossed}

-- bit j of x, as a number
abbrev bit_of : ℕ → ℕ → ℕ
bit_of x j = x / 2 ^ j % 2

-- ---- digits

and_one : (u : ℕ) → u < 2 → bit_and u 1 ≡ u
and_one zero h = refl
and_one (suc zero) h = refl
and_one (suc (suc u)) h = absurd (omega arith)

-- what differs, differed from: the other
back : (u v : ℕ) → u < 2 → v < 2 → bit_xor v (bit_xor u v) ≡ u
back zero zero h g = refl
back zero (suc zero) h g = refl
back (suc zero) zero h g = refl
back (suc zero) (suc zero) h g = refl
back zero (suc (suc v)) h g = absurd (omega arith)
back (suc zero) (suc (suc v)) h g = absurd (omega arith)
back (suc (suc u)) v h g = absurd (omega arith)

small : (z j : ℕ) → bit_of z j < 2
small z j = mod-lt (z / 2 ^ j) (lit< tt)

cut-bit : (z j : ℕ) → j < 32 → bit_of (z % 4294967296) j ≡ bit_of z j
cut-bit z j h =
    let e : 32 ≡ suc (31 - j) + j = omega arith in
    ap (λ (n : ℕ). bit_of (z % 2 ^ n) j) e ∙ mod-bit z j (31 - j)

module _ (m mask x y : ℕ) where
  apart-bit : (j : ℕ) → bit_of (swap_bits m mask x y) j ≡ bit_and (bit_xor (bit_of x (m + j)) (bit_of y j)) (bit_of mask j)
  apart-bit j =
      and-bit (bit_xor (x / 2 ^ m) y) mask j
      ∙ ap (λ (n : ℕ). bit_and n (bit_of mask j)) (xor-bit (x / 2 ^ m) y j ∙ ap (λ (n : ℕ). bit_xor n (bit_of y j)) (shr-bit x m j))

  apart_in : (j : ℕ) → bit_of mask j ≡ 1 → bit_of (swap_bits m mask x y) j ≡ bit_xor (bit_of x (m + j)) (bit_of y j)
  apart_in j e =
      apart-bit j
      ∙ ap (bit_and (bit_xor (bit_of x (m + j)) (bit_of y j))) e
      ∙ and_one (bit_xor (bit_of x (m + j)) (bit_of y j)) (xor_lt 1 (bit_of x (m + j)) (bit_of y j) (small x (m + j)) (small y j))

  apart_out : (j : ℕ) → bit_of mask j ≡ 0 → bit_of (swap_bits m mask x y) j ≡ 0
  apart_out j e = apart-bit j ∙ ap (bit_and (bit_xor (bit_of x (m + j)) (bit_of y j))) e ∙ and_zero_r (bit_xor (bit_of x (m + j)) (bit_of y j))

  -- the high word
  high_bit : (j : ℕ) → j < 32 → bit_of (high_of m mask x y) j ≡ bit_xor (bit_of y j) (bit_of (swap_bits m mask x y) j)
  high_bit j h = cut-bit (bit_xor y (swap_bits m mask x y)) j h ∙ xor-bit y (swap_bits m mask x y) j

  high-in : (j : ℕ) → j < 32 → bit_of mask j ≡ 1 → bit_of (high_of m mask x y) j ≡ bit_of x (m + j)
  high-in j h e =
      high_bit j h
      ∙ ap (bit_xor (bit_of y j)) (apart_in j e)
      ∙ back (bit_of x (m + j)) (bit_of y j) (small x (m + j)) (small y j)

  high-out : (j : ℕ) → j < 32 → bit_of mask j ≡ 0 → bit_of (high_of m mask x y) j ≡ bit_of y j
  high-out j h e = high_bit j h ∙ ap (bit_xor (bit_of y j)) (apart_out j e) ∙ xor_zero_r (bit_of y j)

  -- the low word: its bits below m, and from m on
  low_bit : (j : ℕ) → j < 32 → bit_of (low_of m mask x y) j ≡ bit_xor (bit_of x j) (bit_of (swap_bits m mask x y * 2 ^ m) j)
  low_bit j h =
      cut-bit (bit_xor x (swap_bits m mask x y * 2 ^ m % 4294967296)) j h
      ∙ xor-bit x (swap_bits m mask x y * 2 ^ m % 4294967296) j
      ∙ ap (bit_xor (bit_of x j)) (cut-bit (swap_bits m mask x y * 2 ^ m) j h)

  low_below : (j : ℕ) → j < 32 → j < m → bit_of (low_of m mask x y) j ≡ bit_of x j
  low_below j h g =
      let e : m ≡ suc (m - 1 - j) + j = omega arith in
      low_bit j h
      ∙ ap (bit_xor (bit_of x j)) (ap (λ (n : ℕ). bit_of (swap_bits m mask x y * 2 ^ n) j) e ∙ shl-bit-below (swap_bits m mask x y) j (m - 1 - j))
      ∙ xor_zero_r (bit_of x j)

  low-from : (i : ℕ) → m + i < 32 → bit_of (low_of m mask x y) (m + i) ≡ bit_xor (bit_of x (m + i)) (bit_of (swap_bits m mask x y) i)
  low-from i h = low_bit (m + i) h ∙ ap (bit_xor (bit_of x (m + i))) (shl-bit (swap_bits m mask x y) m i)

  low-in : (i : ℕ) → m + i < 32 → bit_of mask i ≡ 1 → bit_of (low_of m mask x y) (m + i) ≡ bit_of y i
  low-in i h e =
      low-from i h
      ∙ ap (bit_xor (bit_of x (m + i))) (apart_in i e ∙ xor_comm (bit_of x (m + i)) (bit_of y i))
      ∙ back (bit_of y i) (bit_of x (m + i)) (small y i) (small x (m + i))

  low-out : (i : ℕ) → m + i < 32 → bit_of mask i ≡ 0 → bit_of (low_of m mask x y) (m + i) ≡ bit_of x (m + i)
  low-out i h e = low-from i h ∙ ap (bit_xor (bit_of x (m + i))) (apart_out i e) ∙ xor_zero_r (bit_of x (m + i))

-- ---- a stage

-- a place is a row and a bit of it; where the bit of a place is taken from
abbrev source : ℕ → ℕ × ℕ → ℕ × ℕ
source m p = (p.0 / 2 + 16 * (p.1 / m % 2), p.1 + p.0 % 2 * m - p.1 / m % 2 * m)

abbrev Inside : ℕ × ℕ → Type 0
Inside p = (p.0 < 32) × (p.1 < 32)

abbrev at : List ℕ → ℕ × ℕ → ℕ
at l p = bit_of (get_or l p.0 0) p.1

place : (l : List ℕ) {r r' c c' : ℕ} → r ≡ r' → c ≡ c' → bit_of (get_or l r 0) c ≡ bit_of (get_or l r' 0) c'
place l e f = ap₂ (λ (n k : ℕ). bit_of (get_or l n 0) k) e f

-- what a mask has to have: the bits whose digit is 0; those, moved up, are the bits whose digit is 1; and a bit whose digit is 0 can be moved up
abbrev own : ℕ → ℕ → ℕ → Bool
own m mask b = eqb (bit_of mask b + b / m % 2) 1

abbrev moved : ℕ → ℕ → ℕ → Bool
moved m mask b = pick (ltb b m) (eqb (b / m % 2) 0) (eqb (bit_of mask (b - m)) (b / m % 2))

abbrev room : ℕ → ℕ → Bool
room m b = ltb (b + m) (32 + b / m % 2 * m)

abbrev fit : ℕ → ℕ → ℕ → Bool
fit m mask b = own m mask b && (moved m mask b && room m b)

abbrev pub Fits : ℕ → ℕ → Type 0
Fits m mask = any (λ b. not (fit m mask b)) 32 ≡ false

module _ (m mask : ℕ) (fits : Fits m mask) (b : ℕ) (h : b < 32) where
  fit_at : fit m mask b ≡ true
  fit_at = not-false (fit m mask b) (any_none (λ b. not (fit m mask b)) 32 fits b h)

  own_at : bit_of mask b + b / m % 2 ≡ 1
  own_at = eqb-true (bit_of mask b + b / m % 2) 1 ((and-eq-true_iff (own m mask b) (moved m mask b && room m b)).0 fit_at).0

  rest_at : (moved m mask b ≡ true) × (room m b ≡ true)
  rest_at = (and-eq-true_iff (moved m mask b) (room m b)).0 ((and-eq-true_iff (own m mask b) (moved m mask b && room m b)).0 fit_at).1

  room_at : b + m < 32 + b / m % 2 * m
  room_at = ltb-true (b + m) (32 + b / m % 2 * m) rest_at.1

  moved_at-law : ((b < m) × (b / m % 2 ≡ 0)) ⊎ ((m ≤ b) × (bit_of mask (b - m) ≡ b / m % 2))
  moved_at-law =
      ⊎_elim (λ e. inl (ltb-true b m e, eqb-true (b / m % 2) 0 (rw e at rest_at.0)))
      (λ e. inr (ltb-false b m e, eqb-true (bit_of mask (b - m)) (b / m % 2) (rw e at rest_at.0))) (cases (ltb b m))

  module _ (x y : ℕ) where
    low-stays : b / m % 2 ≡ 0 → bit_of (low_of m mask x y) b ≡ bit_of x b
    low-stays d =
        ⊎_elim (λ k. low_below m mask x y b h k.0)
        (λ k.
        let e : m + (b - m) ≡ b = omega (arith, k.0) in
        rw e at (low-out m mask x y (b - m) (omega (arith, k.0)) (k.1 ∙ d))) moved_at-law

    low-comes : b / m % 2 ≡ 1 → (m ≤ b) × (bit_of (low_of m mask x y) b ≡ bit_of y (b - m))
    low-comes d =
        ⊎_elim (λ k. absurd (omega (arith, k.1)))
        (λ k.
        let e : m + (b - m) ≡ b = omega (arith, k.0) in
        (k.0, rw e at (low-in m mask x y (b - m) (omega (arith, k.0)) (k.1 ∙ d)))) moved_at-law

  taken : (l : List ℕ) (i e d : ℕ) → e < 2 → d < 2 → b / m % 2 ≡ d
      → bit_of (pick (eqb e 0) (low_of m mask (get_or l i 0) (get_or l (i + 16) 0)) (high_of m mask (get_or l i 0) (get_or l (i + 16) 0))) b
      ≡ bit_of (get_or l (i + 16 * d) 0) (b + e * m - d * m)
  taken l i zero zero p q k = low-stays (get_or l i 0) (get_or l (i + 16) 0) k ∙ place l (omega arith) (omega arith)
  taken l i zero (suc zero) p q k =
      let t = low-comes (get_or l i 0) (get_or l (i + 16) 0) k in
      t.1 ∙ place l (omega arith) (omega (arith, t.0))
  taken l i (suc zero) zero p q k = high-in m mask (get_or l i 0) (get_or l (i + 16) 0) b h (omega (arith, own_at)) ∙ place l (omega arith) (omega arith)
  taken l i (suc zero) (suc zero) p q k = high-out m mask (get_or l i 0) (get_or l (i + 16) 0) b h (omega (arith, own_at)) ∙ place l (omega arith) (omega arith)
  taken l i (suc (suc e)) d p q k = absurd (omega arith)
  taken l i zero (suc (suc d)) p q k = absurd (omega arith)
  taken l i (suc zero) (suc (suc d)) p q k = absurd (omega arith)

-- the bits of what a stage makes, and that it takes them from inside
module _ (m mask : ℕ) (fits : Fits m mask) where
  stage_at : (l r : List ℕ) → r ≡ list_of (crossed m mask l) 32 → (p : ℕ × ℕ) → Inside p → at r p ≡ at l (source m p)
  unfolding crossed
  stage_at l r e p k =
      ap (λ (x : ℕ). bit_of x p.1) (ap (λ (z : List ℕ). get_or z p.0 0) e ∙ list_at (crossed m mask l) 32 p.0 k.0)
      ∙ taken m mask fits p.1 k.1 l (p.0 / 2) (p.0 % 2) (p.1 / m % 2) (mod-lt p.0 (lit< tt)) (mod-lt (p.1 / m) (lit< tt)) refl

  source_row : (p : ℕ × ℕ) → Inside p → (source m p).0 < 32
  source_row p k =
      let d : p.1 / m % 2 < 2 = mod-lt (p.1 / m) (lit< tt) in
      omega (arith, k.0)

  source-bit : (b e : ℕ) → b < 32 → e < 2 → b + e * m - b / m % 2 * m < 32
  source-bit b zero h g = omega arith
  source-bit b (suc zero) h g = omega (arith, room_at m mask fits b h)
  source-bit b (suc (suc e)) h g = absurd (omega arith)

  source_in : (p : ℕ × ℕ) → Inside p → Inside (source m p)
  source_in p k = (source_row p k, source-bit p.1 (p.0 % 2) k.1 (mod-lt p.0 (lit< tt)))

-- ---- five stages

module _ (m₁ m₂ m₃ m₄ m₅ : ℕ) where
  -- where the bit of a place is taken from, five stages before
  abbrev origin : ℕ × ℕ → ℕ × ℕ
  origin p = source m₁ (source m₂ (source m₃ (source m₄ (source m₅ p))))

  abbrev crosses : ℕ → ℕ → Bool
  crosses a b = eqb (origin (a, b)).0 b && eqb (origin (a, b)).1 a

  -- of each place, the turned one
  abbrev pub Turns : Type 0
  Turns = any (λ a. any (λ b. not (crosses a b)) 32) 32 ≡ false

  origin-turned : Turns → (a b : ℕ) → a < 32 → b < 32 → ((origin (a, b)).0 ≡ b) × ((origin (a, b)).1 ≡ a)
  origin-turned turns a b h g =
      let t : crosses a b ≡ true
      = not-false (crosses a b) (any_none (λ b. not (crosses a b)) 32 (any_none (λ a. any (λ b. not (crosses a b)) 32) 32 turns a h) b g) in
      let k = (and-eq-true_iff (eqb (origin (a, b)).0 b) (eqb (origin (a, b)).1 a)).0 t in
      (eqb-true (origin (a, b)).0 b k.0, eqb-true (origin (a, b)).1 a k.1)

cut-either : (t : Bool) (x y : ℕ) → pick t (x % 4294967296) (y % 4294967296) < 2 ^ 32
cut-either true x y = mod-lt x (lit< tt)
cut-either false x y = mod-lt y (lit< tt)

module _ (l r₁ r₂ r₃ r₄ r₅ : List ℕ) (m₁ k₁ m₂ k₂ m₃ k₃ m₄ k₄ m₅ k₅ : ℕ) (e₁ : r₁ ≡ list_of (crossed m₁ k₁ l) 32) (e₂ : r₂ ≡ list_of (crossed m₂ k₂ r₁) 32)
    (e₃ : r₃ ≡ list_of (crossed m₃ k₃ r₂) 32) (e₄ : r₄ ≡ list_of (crossed m₄ k₄ r₃) 32) (e₅ : r₅ ≡ list_of (crossed m₅ k₅ r₄) 32)
    (f₁ : Fits m₁ k₁) (f₂ : Fits m₂ k₂) (f₃ : Fits m₃ k₃) (f₄ : Fits m₄ k₄) (f₅ : Fits m₅ k₅) (turns : Turns m₁ m₂ m₃ m₄ m₅) where
  five-bits : (a b : ℕ) → a < 32 → b < 32 → at r₅ (a, b) ≡ at l (b, a)
  five-bits a b h g =
      let p : Inside (a, b) = (h, g) in
      let p₄ = source_in m₅ k₅ f₅ (a, b) p in
      let p₃ = source_in m₄ k₄ f₄ (source m₅ (a, b)) p₄ in
      let p₂ = source_in m₃ k₃ f₃ (source m₄ (source m₅ (a, b))) p₃ in
      let p₁ = source_in m₂ k₂ f₂ (source m₃ (source m₄ (source m₅ (a, b)))) p₂ in
      let t = origin-turned m₁ m₂ m₃ m₄ m₅ turns a b h g in
      stage_at m₅ k₅ f₅ r₄ r₅ e₅ (a, b) p
      ∙ stage_at m₄ k₄ f₄ r₃ r₄ e₄ (source m₅ (a, b)) p₄
      ∙ stage_at m₃ k₃ f₃ r₂ r₃ e₃ (source m₄ (source m₅ (a, b))) p₃
      ∙ stage_at m₂ k₂ f₂ r₁ r₂ e₂ (source m₃ (source m₄ (source m₅ (a, b)))) p₂
      ∙ stage_at m₁ k₁ f₁ l r₁ e₁ (source m₂ (source m₃ (source m₄ (source m₅ (a, b))))) p₁
      ∙ place l t.0 t.1

  row : (a : ℕ) → a < 32 → crossed m₅ k₅ r₄ a ≡ word_of (λ b. bit_in l b a) 32
  unfolding crossed
  row a h =
      word-bits (crossed m₅ k₅ r₄ a) 32 (cut-either (eqb (a % 2) 0) _ _)
      ∙ word-eq (bit_at (crossed m₅ k₅ r₄ a)) (λ b. bit_in l b a) 32 (λ b g.
      ap (λ (n : ℕ). eqb n 1)
      (ap (λ (x : ℕ). bit_of x b) (sym (list_at (crossed m₅ k₅ r₄) 32 a h) ∙ ap (λ (z : List ℕ). get_or z a 0) (sym e₅)) ∙ five-bits a b h g))

  pub five-turned : r₅ ≡ turned l
  unfolding turned
  five-turned = e₅ ∙ list-eq (crossed m₅ k₅ r₄) (λ a. word_of (λ b. bit_in l b a) 32) 32 row
