-- Bits of the reach rows: a mark sets its own bit and no other, and rows with the same bits are the same rows. Assumes nothing.
use Prim.Native.Nat.{ℕ, zero, suc, ◌+◌, ◌*◌, ◌/◌, ◌%◌, ◌^◌, ◌≤◌, ◌<◌}
use mathlib.Core.Path.{◌≡◌, refl, sym, ◌∙◌}
use mathlib.Core.Bool.{true, false}
use mathlib.Core.List.{List}
use mathlib.Core.Logic.{⊎_elim}
use native.Mathlib.Nat.{div-eq_of_lt, mod-eq_of_lt}
use native.Mathlib.Numerals.{one-add}
use native.Mathlib.Decide.{ℕ_discrete}
use native.Mathlib.Omega.{arith}
use lib.ListN.{length, get_or, length-set}
use lib.Seq.{get_or-set_same, get_or-set_other, ext_get_or}
use lib.Pow.{mod-pow-add}
use lib.Dec.{eqb}
use borrow.Author.Tests.{eqb-true, eq-eqb, ne_eqb}
use Rattle.laws.specs.Bits.{set_bit}
use Rattle.laws.proofs.Bits.{bit-set, digit-zero}
use Rattle.laws.proofs.Choice.{cases}
use Rattle.reachpairs.specs.Pairs.{mark}
use Rattle.reachpairs.proofs.PairLaws.{High, set-lt}

-- two digits that pass the same test
same-digit : (u v : ℕ) → u < 2 → v < 2 → eqb u 1 ≡ eqb v 1 → u ≡ v
same-digit u v a b e = ⊎_elim one none (cases (eqb v 1))
  where
    one : eqb v 1 ≡ true → u ≡ v
    one t = eqb-true u 1 (e ∙ t) ∙ sym (eqb-true v 1 t)

    none : eqb v 1 ≡ false → u ≡ v
    none t = digit-zero u a (e ∙ t) ∙ sym (digit-zero v b t)

bit-new : (x t : ℕ) → set_bit x t / 2 ^ t % 2 ≡ 1
bit-new x t = eqb-true (set_bit x t / 2 ^ t % 2) 1 (bit-set x t t ∙ rw (eq-eqb t t refl))

bit-other : (x t u : ℕ) → (u ≡ t → ⊥) → set_bit x t / 2 ^ u % 2 ≡ x / 2 ^ u % 2
bit-other x t u n = same-digit _ _ (omega arith) (omega arith) (bit-set x t u ∙ rw (ne_eqb u t n))

-- numbers with the same bits
same_low : (x y k : ℕ) → ((t : ℕ) → t < k → x / 2 ^ t % 2 ≡ y / 2 ^ t % 2) → x % 2 ^ k ≡ y % 2 ^ k
same_low x y zero h = omega arith
same_low x y (suc k) h =
    let e : x % 2 ^ k ≡ y % 2 ^ k = same_low x y k (λ t l. h t (omega arith)) in
    let b : x / 2 ^ k % 2 ≡ y / 2 ^ k % 2 = h k (omega arith) in
    rw (← one-add k, mod-pow-add x 1 k, mod-pow-add y 1 k, e, b)

unfoldable pub digit_in : List ℕ → ℕ → ℕ
digit_in rows q = get_or rows (q / 32) 0 / 2 ^ (q % 32) % 2

pub record Rows (rows : List ℕ) : Type 0 where
  pub size : length rows ≡ 32
  pub fits : (k : ℕ) → k < 32 → get_or rows k 0 < 2 ^ 32

pub rows_ext : (a b : List ℕ) → Rows a → Rows b → ((q : ℕ) → q < 1024 → digit_in a q ≡ digit_in b q) → a ≡ b
unfolding digit_in
rows_ext a b ra rb h = ext_get_or 0 a b (ra.size ∙ sym rb.size) (λ k l. row k (omega (arith, ra.size)))
  where
    bits : (k : ℕ) → k < 32 → (t : ℕ) → t < 32 → get_or a k 0 / 2 ^ t % 2 ≡ get_or b k 0 / 2 ^ t % 2
    bits k l t m =
        let ek : (k * 32 + t) / 32 ≡ k = omega arith in
        let et : (k * 32 + t) % 32 ≡ t = omega arith in
        rw (ek, et) at (h (k * 32 + t) (omega arith))

    row : (k : ℕ) → k < 32 → get_or a k 0 ≡ get_or b k 0
    row k l = sym (mod-eq_of_lt (ra.fits k l)) ∙ same_low (get_or a k 0) (get_or b k 0) 32 (bits k l) ∙ mod-eq_of_lt (rb.fits k l)

-- a mark sets its own bit and no other
module _ (rows : List ℕ) (q : ℕ) (size : length rows ≡ 32) (l : q < 1024) where
  pub mark-same : digit_in (mark rows q) q ≡ 1
  unfolding digit_in
  mark-same =
      rw (get_or-set_same rows (q / 32) (set_bit (get_or rows (q / 32) 0) (q % 32)) 0 (omega arith))
      (bit-new (get_or rows (q / 32) 0) (q % 32))

  pub mark-other : (p : ℕ) → (p ≡ q → ⊥) → digit_in (mark rows q) p ≡ digit_in rows p
  unfolding digit_in
  mark-other p n = go (ℕ_discrete (p / 32) (q / 32))
    where
      go : Dec (p / 32 ≡ q / 32) → digit_in (mark rows q) p ≡ digit_in rows p
      go (yes e) =
          rw (e, get_or-set_same rows (q / 32) (set_bit (get_or rows (q / 32) 0) (q % 32)) 0 (omega arith))
          (bit-other (get_or rows (q / 32) 0) (q % 32) (p % 32) (λ f. n (omega arith)))
      go (no f) = rw (get_or-set_other rows (q / 32) (p / 32) (set_bit (get_or rows (q / 32) 0) (q % 32)) 0 f)

  pub mark-rows : Rows rows → Rows (mark rows q)
  mark-rows r = record { size = length-set rows (q / 32) _ ∙ size; fits = fit }
    where
      fit : (k : ℕ) → k < 32 → get_or (mark rows q) k 0 < 2 ^ 32
      fit k m = go (ℕ_discrete k (q / 32))
        where
          go : Dec (k ≡ q / 32) → get_or (mark rows q) k 0 < 2 ^ 32
          go (yes e) =
              rw (e, get_or-set_same rows (q / 32) (set_bit (get_or rows (q / 32) 0) (q % 32)) 0 (omega arith))
              (set-lt 32 (get_or rows (q / 32) 0) (q % 32) (r.fits (q / 32) (omega arith)) (omega arith))
          go (no f) = rw (get_or-set_other rows (q / 32) k (set_bit (get_or rows (q / 32) 0) (q % 32)) 0 f) (r.fits k m)

-- no bit at next or above it
pub high_zero : (next : ℕ) (rows : List ℕ) → High next rows → (q : ℕ) → next ≤ q → q < 1024 → digit_in rows q ≡ 0
unfolding digit_in
high_zero next rows h q n l = rw (div-eq_of_lt (h q n l))
