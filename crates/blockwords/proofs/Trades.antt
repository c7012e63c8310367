-- A trade takes each bit of its result from one place of what it is given. That a mask fits its trade, and where the bits come from after some trades, are
-- tests over all 64 places, which are computed.
-- Assumes nothing.
use mathlib.Core.Path.{◌≡◌, refl, sym, ap, ap₂, ◌∙◌}
use mathlib.Core.Bool.{Bool, true, false, ◌&&◌, not, true≢false, and-eq-true_iff, and_comm}
use mathlib.Core.Logic.{⊎_elim}
use Prim.Native.Nat.{ℕ, zero, suc, ◌+◌, ◌*◌, ◌-◌, ◌/◌, ◌%◌, ◌^◌, ◌<◌}
use native.Mathlib.Nat.{mod-lt, add_comm}
use native.Mathlib.Omega.{arith}
use lib.Bits.{bit_xor}
use lib.Dec.{eqb, ltb, leb, lit<}
use borrow.Author.Tests.{eqb-true, ltb-true, leb-true, leb-false, not-true, not-false}
use Rattle.laws.specs.Bits.{bit_at, word_of}
use Rattle.laws.specs.Choice.{pick}
use Rattle.laws.specs.Sum.{any}
use Rattle.laws.proofs.Any.{any_none}
use Rattle.laws.proofs.Bits.{xor-bit, bit-and, shr-bit, shl-bit, shl-bit-below, mod-bit}
use Rattle.laws.proofs.Choice.{cases}
use Rattle.laws.proofs.Words.{bits-eq}
use Rattle.blockwords.specs.Trade.{traded_bits, traded}

-- ---- bits that differ

abbrev pub unlike : Bool → Bool → Bool
unlike s t = pick t (not s) s

digit-unlike : (u v : ℕ) → u < 2 → v < 2 → eqb (bit_xor u v) 1 ≡ unlike (eqb u 1) (eqb v 1)
digit-unlike zero zero h g = refl
digit-unlike zero (suc zero) h g = refl
digit-unlike (suc zero) zero h g = refl
digit-unlike (suc zero) (suc zero) h g = refl
digit-unlike zero (suc (suc v)) h g = absurd (omega arith)
digit-unlike (suc zero) (suc (suc v)) h g = absurd (omega arith)
digit-unlike (suc (suc u)) v h g = absurd (omega arith)

pub bit-unlike : (x y j : ℕ) → bit_at (bit_xor x y) j ≡ unlike (bit_at x j) (bit_at y j)
bit-unlike x y j =
    ap (λ (n : ℕ). eqb n 1) (xor-bit x y j) ∙ digit-unlike (x / 2 ^ j % 2) (y / 2 ^ j % 2) (mod-lt _ (lit< tt)) (mod-lt _ (lit< tt))

-- ---- a trade

-- whether the bit that stands m below b is in the mask
abbrev above : ℕ → ℕ → ℕ → Bool
above m mask b = leb m b && bit_at mask (b - m)

-- where bit b is taken from
abbrev pub source : ℕ → ℕ → ℕ → ℕ
source m mask b = pick (bit_at mask b) (b + m) (pick (above m mask b) (b - m) b)

module _ (m mask x : ℕ) where
  marked-bit : (b : ℕ) → bit_at (traded_bits m mask x) b ≡ (bit_at mask b && unlike (bit_at x b) (bit_at x (b + m)))
  marked-bit b =
      bit-and (bit_xor x (x / 2 ^ m)) mask b
      ∙ and_comm (bit_at (bit_xor x (x / 2 ^ m)) b) (bit_at mask b)
      ∙ ap (λ t. bit_at mask b && t)
      (bit-unlike x (x / 2 ^ m) b
      ∙ ap (unlike (bit_at x b)) (ap (λ (n : ℕ). eqb n 1) (shr-bit x m b) ∙ ap (bit_at x) (add_comm m b)))

  cut-bit : (z b : ℕ) → b < 64 → bit_at (z % 18446744073709551616) b ≡ bit_at z b
  cut-bit z b h =
      let e : 64 ≡ suc (63 - b) + b = omega arith in
      ap (λ (n : ℕ). eqb n 1) (ap (λ (n : ℕ). z % 2 ^ n / 2 ^ b % 2) e ∙ mod-bit z b (63 - b))

  moved-bit : (b : ℕ) → bit_at (traded_bits m mask x * 2 ^ m) b ≡ (above m mask b && unlike (bit_at x (b - m)) (bit_at x b))
  moved-bit b = ⊎_elim (λ t. from t) (λ t. below t) (cases (leb m b))
    where
      from : leb m b ≡ true → bit_at (traded_bits m mask x * 2 ^ m) b ≡ (above m mask b && unlike (bit_at x (b - m)) (bit_at x b))
      from t =
          let e : b ≡ m + (b - m) = omega (arith, leb-true m b t) in
          let e' : b - m + m ≡ b = omega (arith, leb-true m b t) in
          ap (bit_at (traded_bits m mask x * 2 ^ m)) e
          ∙ ap (λ (n : ℕ). eqb n 1) (shl-bit (traded_bits m mask x) m (b - m))
          ∙ marked-bit (b - m)
          ∙ ap (λ (n : ℕ). bit_at mask (b - m) && unlike (bit_at x (b - m)) (bit_at x n)) e'
          ∙ sym (ap (λ s. (s && bit_at mask (b - m)) && unlike (bit_at x (b - m)) (bit_at x b)) t)

      below : leb m b ≡ false → bit_at (traded_bits m mask x * 2 ^ m) b ≡ (above m mask b && unlike (bit_at x (b - m)) (bit_at x b))
      below t =
          let e : m ≡ suc (m - 1 - b) + b = omega (arith, leb-false m b t) in
          ap (λ (n : ℕ). eqb n 1)
          (ap (λ (n : ℕ). traded_bits m mask x * 2 ^ n / 2 ^ b % 2) e ∙ shl-bit-below (traded_bits m mask x) b (m - 1 - b))
          ∙ sym (ap (λ s. (s && bit_at mask (b - m)) && unlike (bit_at x (b - m)) (bit_at x b)) t)

  settled : (u v a d e : Bool) → (u && v) ≡ false → unlike (unlike a (u && unlike a d)) (v && unlike e a) ≡ pick u d (pick v e a)
  settled true true a d e h = absurd (true≢false h)
  settled true false true true e h = refl
  settled true false true false e h = refl
  settled true false false true e h = refl
  settled true false false false e h = refl
  settled false true true d true h = refl
  settled false true true d false h = refl
  settled false true false d true h = refl
  settled false true false d false h = refl
  settled false false a d e h = refl

  picked : (u v : Bool) (i j k : ℕ) → pick u (bit_at x i) (pick v (bit_at x j) (bit_at x k)) ≡ bit_at x (pick u i (pick v j k))
  picked true v i j k = refl
  picked false true i j k = refl
  picked false false i j k = refl

  trade-bit : (b : ℕ) → b < 64 → (bit_at mask b && above m mask b) ≡ false → bit_at (traded m mask x) b ≡ bit_at x (source m mask b)
  unfolding traded
  trade-bit b h apart =
      bit-unlike (bit_xor x (traded_bits m mask x)) (traded_bits m mask x * 2 ^ m % 18446744073709551616) b
      ∙ ap₂ unlike (bit-unlike x (traded_bits m mask x) b ∙ ap (unlike (bit_at x b)) (marked-bit b))
      (cut-bit (traded_bits m mask x * 2 ^ m) b h ∙ moved-bit b)
      ∙ settled (bit_at mask b) (above m mask b) (bit_at x b) (bit_at x (b + m)) (bit_at x (b - m)) apart
      ∙ picked (bit_at mask b) (above m mask b) (b + m) (b - m) b

-- ---- all 64 places

abbrev fit : ℕ → ℕ → ℕ → Bool
fit m mask b = not (bit_at mask b && above m mask b) && ltb (source m mask b) 64

-- no place is traded twice, and each bit is taken from inside
abbrev pub Fits : ℕ → ℕ → Type 0
Fits m mask = any (λ b. not (fit m mask b)) 64 ≡ false

module _ (m mask : ℕ) (fits : Fits m mask) (b : ℕ) (h : b < 64) where
  fit_at : (not (bit_at mask b && above m mask b) ≡ true) × (ltb (source m mask b) 64 ≡ true)
  fit_at =
      (and-eq-true_iff (not (bit_at mask b && above m mask b)) (ltb (source m mask b) 64)).0
      (not-false (fit m mask b) (any_none (λ b. not (fit m mask b)) 64 fits b h))

  pub source_in : source m mask b < 64
  source_in = ltb-true (source m mask b) 64 fit_at.1

  pub taken : (x y : ℕ) → y ≡ traded m mask x → bit_at y b ≡ bit_at x (source m mask b)
  taken x y e = ap (λ (n : ℕ). bit_at n b) e ∙ trade-bit m mask x b h (not-true (bit_at mask b && above m mask b) fit_at.0)

-- each of 64 places is given by a rule
abbrev pub Same : (ℕ → ℕ) → (ℕ → ℕ) → Type 0
Same f g = any (λ q. not (eqb (f q) (g q))) 64 ≡ false

pub same_at : (f g : ℕ → ℕ) → Same f g → (q : ℕ) → q < 64 → f q ≡ g q
same_at f g e q h = eqb-true (f q) (g q) (not-false (eqb (f q) (g q)) (any_none (λ q. not (eqb (f q) (g q))) 64 e q h))

-- ---- trades after one another: the bits of the last result

module _ (m₁ k₁ m₂ k₂ : ℕ) (f₁ : Fits m₁ k₁) (f₂ : Fits m₂ k₂) (x a r : ℕ) (e₁ : a ≡ traded m₁ k₁ x) (e₂ : r ≡ traded m₂ k₂ a) where
  two-bits : (q : ℕ) → q < 64 → bit_at r q ≡ bit_at x (source m₁ k₁ (source m₂ k₂ q))
  two-bits q h = taken m₂ k₂ f₂ q h a r e₂ ∙ taken m₁ k₁ f₁ (source m₂ k₂ q) (source_in m₂ k₂ f₂ q h) x a e₁

  pub two-trades : (from : ℕ → ℕ) → r < 2 ^ 64 → Same (λ q. source m₁ k₁ (source m₂ k₂ q)) from → r ≡ word_of (λ q. bit_at x (from q)) 64
  two-trades from fits same =
      bits-eq (λ q. bit_at x (from q)) r 64 fits (λ q h. two-bits q h ∙ ap (bit_at x) (same_at (λ q. source m₁ k₁ (source m₂ k₂ q)) from same q h))

  pub three-trades : (m₃ k₃ : ℕ) → Fits m₃ k₃ → (s : ℕ) → s ≡ traded m₃ k₃ r → (from : ℕ → ℕ) → s < 2 ^ 64
      → Same (λ q. source m₁ k₁ (source m₂ k₂ (source m₃ k₃ q))) from → s ≡ word_of (λ q. bit_at x (from q)) 64
  three-trades m₃ k₃ f₃ s e₃ from fits same =
      bits-eq (λ q. bit_at x (from q)) s 64 fits (λ q h.
      taken m₃ k₃ f₃ q h r s e₃
      ∙ two-bits (source m₃ k₃ q) (source_in m₃ k₃ f₃ q h)
      ∙ ap (bit_at x) (same_at (λ q. source m₁ k₁ (source m₂ k₂ (source m₃ k₃ q))) from same q h))
