-- Halves of words, and where the bits of a plain word come from: the digits of a place, by arithmetic. Assumes nothing.
use mathlib.Core.Path.{◌≡◌, refl, sym, ap, ◌∙◌}
use mathlib.Core.Bool.{Bool, true, false}
use mathlib.Core.Logic.{⊎_elim}
use Prim.Native.Nat.{ℕ, suc, ◌+◌, ◌*◌, ◌-◌, ◌/◌, ◌%◌, ◌^◌, ◌≤◌, ◌<◌}
use native.Mathlib.Nat.{add_comm}
use native.Mathlib.Omega.{arith}
use lib.Dec.{eqb, ltb}
use borrow.Author.Tests.{eqb-true, eqb-false, ltb-true, ltb-false, lt-ltb, le-ltb}
use Rattle.laws.specs.Bits.{bit_at, word_of}
use Rattle.laws.specs.Choice.{pick}
use Rattle.laws.proofs.Bits.{shr-bit, mod-bit}
use Rattle.laws.proofs.Choice.{cases}
use Rattle.laws.proofs.Words.{bits-eq, word-bit, word-eq}
use Rattle.blockwords.specs.Plain.{turned_from, laced_from, plain_bit}

-- ---- halves

low_bit : (z q : ℕ) → q < 32 → bit_at (z % 4294967296) q ≡ bit_at z q
low_bit z q h =
    let e : 32 ≡ suc (31 - q) + q = omega arith in
    ap (λ (n : ℕ). eqb n 1) (ap (λ (n : ℕ). z % 2 ^ n / 2 ^ q % 2) e ∙ mod-bit z q (31 - q))

high_bit : (z q : ℕ) → bit_at (z / 4294967296) q ≡ bit_at z (32 + q)
high_bit z q = ap (λ (n : ℕ). eqb n 1) (shr-bit z 32 q)

-- a word by its halves
module _ (f g : ℕ → Bool) (z u v : ℕ) (fits : z < 2 ^ 64) (low : z % 4294967296 ≡ u) (high : z / 4294967296 ≡ v)
    (at_low : (q : ℕ) → q < 32 → bit_at u q ≡ f q) (at_high : (q : ℕ) → 32 ≤ q → q < 64 → bit_at v (q - 32) ≡ g q) where
  halved : z ≡ word_of (λ q. pick (ltb q 32) (f q) (g q)) 64
  halved =
      bits-eq (λ q. pick (ltb q 32) (f q) (g q)) z 64 fits (λ q h.
      ⊎_elim
      (λ (t : ltb q 32 ≡ true).
      sym (low_bit z q (ltb-true q 32 t)) ∙ ap (λ (n : ℕ). bit_at n q) low ∙ at_low q (ltb-true q 32 t) ∙ sym (ap (λ b. pick b (f q) (g q)) t))
      (λ (t : ltb q 32 ≡ false).
      let e : q ≡ 32 + (q - 32) = omega (arith, ltb-false q 32 t) in
      ap (bit_at z) e
      ∙ sym (high_bit z (q - 32))
      ∙ ap (λ (n : ℕ). bit_at n (q - 32)) high
      ∙ at_high q (ltb-false q 32 t) h
      ∙ sym (ap (λ b. pick b (f q) (g q)) t))
      (cases (ltb q 32)))

module _ (x y : ℕ) (fits : x < 2 ^ 64) (fits' : y < 2 ^ 64) where
  pub low-joined : x % 4294967296 + 4294967296 * (y % 4294967296) ≡ word_of (λ q. pick (ltb q 32) (bit_at x q) (bit_at y (q - 32))) 64
  low-joined =
      halved (bit_at x) (λ q. bit_at y (q - 32)) (x % 4294967296 + 4294967296 * (y % 4294967296)) (x % 4294967296) (y % 4294967296)
      (omega arith) (omega arith) (omega arith) (low_bit x) (λ q h l. low_bit y (q - 32) (omega arith))

  pub high-joined : x / 4294967296 + 4294967296 * (y / 4294967296) ≡ word_of (λ q. pick (ltb q 32) (bit_at x (q + 32)) (bit_at y q)) 64
  high-joined =
      halved (λ q. bit_at x (q + 32)) (bit_at y) (x / 4294967296 + 4294967296 * (y / 4294967296)) (x / 4294967296) (y / 4294967296)
      (omega arith) (omega arith) (omega arith)
      (λ q h. high_bit x q ∙ ap (bit_at x) (add_comm 32 q))
      (λ q h l. let e : 32 + (q - 32) ≡ q = omega arith in high_bit y (q - 32) ∙ ap (bit_at y) e)

-- ---- plain words

-- a and b are the words turned over, z some of their bits, r those laid by turns
module _ (c : ℕ) (i j : ℕ → ℕ)
    (low-from : (q : ℕ) → q < 64 → q / 8 % 2 ≡ 0 → (i (laced_from q) < 64) × (turned_from (i (laced_from q)) ≡ 8 * (q % 8) + (q / 16 + c)))
    (high-from : (q : ℕ) → q < 64 → q / 8 % 2 ≡ 1 → (j (laced_from q) < 64) × (turned_from (j (laced_from q)) ≡ 8 * (q % 8) + (q / 16 + c)))
    (x y a b z r : ℕ) (ea : a ≡ word_of (λ q. bit_at x (turned_from q)) 64) (eb : b ≡ word_of (λ q. bit_at y (turned_from q)) 64)
    (ez : z ≡ word_of (λ q. pick (ltb q 32) (bit_at a (i q)) (bit_at b (j q))) 64) (er : r ≡ word_of (λ q. bit_at z (laced_from q)) 64) where
  z-bit : (t : Bool) (q : ℕ) → q < 64 → ltb q 32 ≡ t → bit_at z q ≡ pick t (bit_at a (i q)) (bit_at b (j q))
  z-bit t q h e =
      ap (λ (n : ℕ). bit_at n q) ez
      ∙ word-bit (λ q. pick (ltb q 32) (bit_at a (i q)) (bit_at b (j q))) 64 q h
      ∙ ap (λ t. pick t (bit_at a (i q)) (bit_at b (j q))) e

  turned_bit : (u v : ℕ) → v ≡ word_of (λ q. bit_at u (turned_from q)) 64 → (p k : ℕ) → (p < 64) × (turned_from p ≡ k) → bit_at v p ≡ bit_at u k
  turned_bit u v e p k h = ap (λ (n : ℕ). bit_at n p) e ∙ word-bit (λ q. bit_at u (turned_from q)) 64 p h.0 ∙ ap (bit_at u) h.1

  plain-bit : (t : Bool) (q : ℕ) → q < 64 → eqb (q / 8 % 2) 0 ≡ t
      → bit_at z (laced_from q) ≡ pick t (bit_at x (8 * (q % 8) + (q / 16 + c))) (bit_at y (8 * (q % 8) + (q / 16 + c)))
  plain-bit true q h e =
      let d : q / 8 % 2 ≡ 0 = eqb-true (q / 8 % 2) 0 e in
      z-bit true (laced_from q) (omega arith) (lt-ltb (laced_from q) 32 (omega arith))
      ∙ turned_bit x a ea (i (laced_from q)) (8 * (q % 8) + (q / 16 + c)) (low-from q h d)
  plain-bit false q h e =
      let n : q / 8 % 2 ≡ 0 → ⊥ = eqb-false (q / 8 % 2) 0 e in
      let d : q / 8 % 2 ≡ 1 = omega arith in
      z-bit false (laced_from q) (omega arith) (le-ltb (laced_from q) 32 (omega arith))
      ∙ turned_bit y b eb (j (laced_from q)) (8 * (q % 8) + (q / 16 + c)) (high-from q h d)

  plain : r ≡ word_of (plain_bit c x y) 64
  plain = er ∙ word-eq (λ q. bit_at z (laced_from q)) (plain_bit c x y) 64 (λ q h. plain-bit (eqb (q / 8 % 2) 0) q h refl)

-- the digits of a place, turned over
from_is : (c q k : ℕ) → q < 64 → c ≤ 4 → k ≡ 8 * (q / 16 + c) + q % 8 → (k < 64) × (turned_from k ≡ 8 * (q % 8) + (q / 16 + c))
from_is c q k h l e = (omega arith, ap turned_from e ∙ digits (q / 16 + c) (q % 8) (omega arith))
  where
    digits : (a b : ℕ) → b < 8 → turned_from (8 * a + b) ≡ 8 * b + a
    digits a b h = omega arith

pub first-plain-is : (x y a b z r : ℕ) → a ≡ word_of (λ q. bit_at x (turned_from q)) 64 → b ≡ word_of (λ q. bit_at y (turned_from q)) 64
    → z ≡ word_of (λ q. pick (ltb q 32) (bit_at a q) (bit_at b (q - 32))) 64 → r ≡ word_of (λ q. bit_at z (laced_from q)) 64 → r ≡ word_of (plain_bit 0 x y) 64
first-plain-is =
    plain 0 (λ q. q) (λ q. q - 32) (λ q h d. from_is 0 q (laced_from q) h (omega arith) (omega arith))
    (λ q h d. from_is 0 q (laced_from q - 32) h (omega arith) (omega arith))

pub second-plain-is : (x y a b z r : ℕ) → a ≡ word_of (λ q. bit_at x (turned_from q)) 64 → b ≡ word_of (λ q. bit_at y (turned_from q)) 64
    → z ≡ word_of (λ q. pick (ltb q 32) (bit_at a (q + 32)) (bit_at b q)) 64 → r ≡ word_of (λ q. bit_at z (laced_from q)) 64 → r ≡ word_of (plain_bit 4 x y) 64
second-plain-is =
    plain 4 (λ q. q + 32) (λ q. q) (λ q h d. from_is 4 q (laced_from q + 32) h (omega arith) (omega arith))
    (λ q h d. from_is 4 q (laced_from q) h (omega arith) (omega arith))
