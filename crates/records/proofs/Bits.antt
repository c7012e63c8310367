-- The left-over bits of a body are those of its last byte, from the rest of n by 8 on. Assumes nothing.
use Prim.Native.Nat.{ℕ, ◌+◌, ◌-◌, ◌*◌, ◌/◌, ◌%◌, ◌^◌, ◌<◌}
use mathlib.Core.Path.{◌≡◌, refl, sym, ap, ◌∙◌}
use mathlib.Core.List.{List}
use mathlib.Core.Bool.{Bool, true, false, not}
use mathlib.Core.Logic.{⊎_elim}
use native.Mathlib.Nat.{zero-add, zero-div}
use native.Mathlib.Omega.{arith}
use lib.ListN.{length, get_or}
use lib.Pow.{shr_lt, shr-shr}
use lib.Dec.{eqb}
use borrow.Author.Tests.{eqb-true, eqb-false}
use Rattle.laws.specs.Sum.{any}
use Rattle.laws.proofs.Choice.{cases}
use Rattle.laws.proofs.Any.{any_none, none_any, any-eq}
use Rattle.laws.proofs.Bits.{digit-zero, no_bits}
use Rattle.records.specs.Bits.{bytes_for, bit_of, left_over}

-- a number whose bits are all 0
zero_bits : (c y : ℕ) → y < 2 ^ c → ((i : ℕ) → i < c → y / 2 ^ i % 2 ≡ 0) → y ≡ 0
zero_bits c y h none =
    let low : y < 2 ^ 0 = no_bits y 0 c (rw (zero-add c) h) (λ t _ l e. omega (arith, none t (omega arith))) in
    omega arith

-- a number below 2 to the power c has a bit of 1 among its first c, unless it is 0
some-bit : (c y : ℕ) → y < 2 ^ c → any (λ b. eqb (y / 2 ^ b % 2) 1) c ≡ not (eqb y 0)
some-bit c y h = ⊎_elim is_zero not-zero (cases (eqb y 0))
  where
    p : ℕ → Bool
    p b = eqb (y / 2 ^ b % 2) 1

    is_zero : eqb y 0 ≡ true → any p c ≡ not (eqb y 0)
    is_zero e =
        let z : y ≡ 0 = eqb-true y 0 e in
        none_any p c (λ k l. rw (z, zero-div (2 ^ k)) refl) ∙ ap not (sym e)

    found : eqb y 0 ≡ false → any p c ≡ false → any p c ≡ not (eqb y 0)
    found e n = absurd (eqb-false y 0 e (zero_bits c y h (λ i l. digit-zero (y / 2 ^ i % 2) (omega arith) (any_none p c n i l))))

    not-zero : eqb y 0 ≡ false → any p c ≡ not (eqb y 0)
    not-zero e = ⊎_elim (λ t. t ∙ ap not (sym e)) (found e) (cases (any p c))

module _ (s : List ℕ) (n : ℕ) (size : length s ≡ bytes_for n) where
  pub no-rest : n % 8 ≡ 0 → left_over s n ≡ false
  unfolding left_over any
  no-rest h =
      let e : 8 * length s - n ≡ 0 = omega arith in
      rw e

  pub some-rest : (n % 8 ≡ 0 → ⊥) → get_or s (n / 8) 0 < 256 → left_over s n ≡ not (eqb (get_or s (n / 8) 0 / 2 ^ (n % 8)) 0)
  unfolding left_over
  some-rest h small =
      let e : 8 * length s - n ≡ 8 - n % 8 = omega arith in
      let x = get_or s (n / 8) 0 in
      let l : x < 2 ^ (8 - n % 8 + n % 8) = rw (the-eight) small in
      ap (any (λ b. eqb (bit_of s (n + b)) 1)) e
      ∙ any-eq (λ b. eqb (bit_of s (n + b)) 1) (λ b. eqb (x / 2 ^ (n % 8) / 2 ^ b % 2) 1) (8 - n % 8) (λ b m. ap (λ (y : ℕ). eqb (y % 2) 1) (same b m))
      ∙ some-bit (8 - n % 8) (x / 2 ^ (n % 8)) (shr_lt (8 - n % 8) (n % 8) l)
    where
      the-eight : 8 - n % 8 + n % 8 ≡ 8
      the-eight = omega arith

      same : (b : ℕ) → b < 8 - n % 8 → get_or s ((n + b) / 8) 0 / 2 ^ ((n + b) % 8) ≡ get_or s (n / 8) 0 / 2 ^ (n % 8) / 2 ^ b
      same b m =
          let f : (n + b) / 8 ≡ n / 8 = omega arith in
          let g : (n + b) % 8 ≡ n % 8 + b = omega arith in
          rw (f, g, shr-shr (get_or s (n / 8) 0) (n % 8) b)
