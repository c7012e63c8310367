-- The bytes of one row's pairs: one place at a time, all together two for each bit, and none past the last bit. Then the rows one after the other.
-- Assumes nothing.
use Prim.Native.Nat.{ℕ, zero, suc, ◌+◌, ◌-◌, ◌*◌, ◌/◌, ◌%◌, ◌^◌, ◌≤◌, ◌<◌}
use mathlib.Core.Path.{◌≡◌, refl, sym, ap, ◌∙◌, subst}
use mathlib.Core.Bool.{true, false}
use mathlib.Core.List.{List, [], ◌∷◌, ◌++◌, append_assoc}
use native.Mathlib.Nat.{add-zero, zero-add, suc-add, div-eq_of_lt, lt_of_lt_of_le}
use native.Mathlib.Omega.{arith}
use lib.Count.{ones, ones_step}
use lib.ListN.{length, get_or, length-append}
use lib.Seq.{sets}
use lib.Pow.{pow_mono, shr-shr}
use lib.Dec.{eqb}
use Rattle.laws.specs.Choice.{pick}
use Rattle.laws.specs.Bits.{bit_at}
use Rattle.laws.proofs.Bits.{bit-above, none_left}
use Rattle.laws.proofs.Stores.{sets-append}
use Rattle.reachpairs.specs.Pairs.{pair_of, pairs_from, pair_bytes}
use Rattle.reachpairs.specs.Loop.{row_from}

-- the bytes of one place
module _ (row q : ℕ) where
  pub pair_set : bit_at row (q % 32) ≡ true → pair_of row q ≡ (q / 32 + 1) ∷ (q % 32 + 1) ∷ []
  unfolding pair_of
  pair_set h = rw h

  pub pair-clear : bit_at row (q % 32) ≡ false → pair_of row q ≡ []
  unfolding pair_of
  pair-clear h = rw h

  pair-length : length (pair_of row q) ≡ 2 * (row / 2 ^ (q % 32) % 2)
  unfolding pair_of
  pair-length = go (row / 2 ^ (q % 32) % 2) (omega arith)
    where
      go : (d : ℕ) → d < 2 → length (pick (eqb d 1) ((q / 32 + 1) ∷ (q % 32 + 1) ∷ []) []) ≡ 2 * d
      go zero h = refl
      go (suc zero) h = refl
      go (suc (suc d)) h = absurd (omega arith)

-- what is left a bit later
pub left-half : (row b : ℕ) → row / 2 ^ b / 2 ≡ row / 2 ^ (b + 1)
left-half row b = shr-shr row b 1

row-none : (row a n b : ℕ) → b + n ≤ 32 → row < 2 ^ b → row_from row (32 * a + b) n ≡ []
unfolding row_from
row-none row a zero b h l = refl
row-none row a (suc n) b h l =
    let e : (32 * a + b) % 32 ≡ b = omega arith in
    let f : 32 * a + b + 1 ≡ 32 * a + (b + 1) = omega arith in
    rw (pair-clear row (32 * a + b) (rw e (bit-above row b l)), f)
    (row-none row a n (b + 1) (omega arith) (lt_of_lt_of_le l (pow_mono {i = b} {j = b + 1} (omega arith))))

pub row-end : (row a q : ℕ) → 32 * a ≤ q → q ≤ 32 * a + 32 → row / 2 ^ (q - 32 * a) ≡ 0 → row_from row q (32 * a + 32 - q) ≡ []
row-end row a q l m e =
    let k : q ≡ 32 * a + (q - 32 * a) = omega arith in
    let c = row-none row a (32 * a + 32 - q) (q - 32 * a) (omega arith) (none_left row (q - 32 * a) e) in
    ap (λ (x : ℕ). row_from row x (32 * a + 32 - q)) k ∙ c

-- two bytes for each bit
row-ones : (row a : ℕ) → row < 2 ^ 32 → (n b : ℕ) → b + n ≡ 32 → length (row_from row (32 * a + b) n) ≡ 2 * ones (row / 2 ^ b)
unfolding row_from ones
row-ones row a h zero b e =
    let z : row / 2 ^ b ≡ 0 = div-eq_of_lt (subst (λ (k : ℕ). row < 2 ^ k) (sym (sym (add-zero b) ∙ e)) h) in
    rw z
row-ones row a h (suc n) b e =
    let m : (32 * a + b) % 32 ≡ b = omega arith in
    let f : 32 * a + b + 1 ≡ 32 * a + (b + 1) = omega arith in
    let p : length (pair_of row (32 * a + b)) ≡ 2 * (row / 2 ^ b % 2) = pair-length row (32 * a + b) ∙ ap (λ (k : ℕ). 2 * (row / 2 ^ k % 2)) m in
    let r : length (row_from row (32 * a + b + 1) n) ≡ 2 * ones (row / 2 ^ (b + 1)) =
    ap (λ (x : ℕ). length (row_from row x n)) f ∙ row-ones row a h n (b + 1) (omega arith) in
    let o : ones (row / 2 ^ b) ≡ row / 2 ^ b % 2 + ones (row / 2 ^ (b + 1)) =
    ones_step (row / 2 ^ b) ∙ ap (λ (x : ℕ). row / 2 ^ b % 2 + ones x) (left-half row b) in
    simp length-append (omega (arith, p, r, o))

pub row-length : (row a : ℕ) → row < 2 ^ 32 → length (row_from row (32 * a) 32) ≡ 2 * ones row
row-length row a h =
    let e : row / 2 ^ 0 ≡ row = omega arith in
    ap (λ (q : ℕ). length (row_from row q 32)) (sym (add-zero (32 * a))) ∙ row-ones row a h 32 0 refl ∙ ap (λ (x : ℕ). 2 * ones x) e

pair-most : (row q : ℕ) → length (pair_of row q) ≤ 2
pair-most row q = omega (arith, pair-length row q)

pub row-most : (row q n : ℕ) → length (row_from row q n) ≤ 2 * n
unfolding row_from
row-most row q zero = omega arith
row-most row q (suc n) = simp length-append (omega (arith, row-most row (q + 1) n, pair-most row q))

-- the rows from row a on: its own places, then those of the rows after it
row_of :
    (rows : List ℕ) (a m n b : ℕ) → b + n ≤ 32 →
    pairs_from rows (32 * a + b) (n + m) ≡ row_from (get_or rows a 0) (32 * a + b) n ++ pairs_from rows (32 * a + (b + n)) m
unfolding row_from pairs_from
row_of rows a m zero b h = rw (add-zero b, zero-add m)
row_of rows a m (suc n) b h =
    let d : (32 * a + b) / 32 ≡ a = omega arith in
    let f : 32 * a + b + 1 ≡ 32 * a + (b + 1) = omega arith in
    let g : b + suc n ≡ b + 1 + n = omega arith in
    rw (suc-add n m, d, f, g, append_assoc, row_of rows a m n (b + 1) (omega arith))

pub rows-unroll :
    (rows : List ℕ) (a : ℕ) → a < 32 →
    pairs_from rows (32 * a) (1024 - 32 * a)
    ≡ row_from (get_or rows a 0) (32 * a) 32 ++ pairs_from rows (32 * (a + 1)) (1024 - 32 * (a + 1))
rows-unroll rows a h =
    let e : 1024 - 32 * a ≡ 32 + (1024 - 32 * (a + 1)) = omega arith in
    let f : 32 * (a + 1) ≡ 32 * a + 32 = omega arith in
    let g = row_of rows a (1024 - 32 * (a + 1)) 32 0 (omega arith) in
    rw (e, f) (rw (add-zero (32 * a), f) at g)

pub rows-put :
    (out : List ℕ) (k : ℕ) (rows : List ℕ) (a : ℕ) → a < 32 →
    sets (sets out k (row_from (get_or rows a 0) (32 * a) 32)) (k + length (row_from (get_or rows a 0) (32 * a) 32))
    (pairs_from rows (32 * (a + 1)) (1024 - 32 * (a + 1)))
    ≡ sets out k (pairs_from rows (32 * a) (1024 - 32 * a))
rows-put out k rows a h =
    sym (sets-append out k (row_from (get_or rows a 0) (32 * a) 32) (pairs_from rows (32 * (a + 1)) (1024 - 32 * (a + 1))))
    ∙ ap (sets out k) (sym (rows-unroll rows a h))

pub rows-unroll-length :
    (rows : List ℕ) (a : ℕ) → a < 32 →
    length (pairs_from rows (32 * a) (1024 - 32 * a))
    ≡ length (row_from (get_or rows a 0) (32 * a) 32) + length (pairs_from rows (32 * (a + 1)) (1024 - 32 * (a + 1)))
rows-unroll-length rows a h = ap length (rows-unroll rows a h) ∙ simp length-append

pub rows_end : (rows : List ℕ) (a : ℕ) → 32 ≤ a → pairs_from rows (32 * a) (1024 - 32 * a) ≡ []
unfolding pairs_from
rows_end rows a h =
    let e : 1024 - 32 * a ≡ 0 = omega arith in
    rw e

-- the pairs are whole, and not many
pub pairs-even : (rows : List ℕ) (q n : ℕ) → length (pairs_from rows q n) % 2 ≡ 0
unfolding pairs_from
pairs-even rows q zero = refl
pairs-even rows q (suc n) =
    simp length-append (omega (arith, pairs-even rows (q + 1) n, pair-length (get_or rows (q / 32) 0) q))

pub pairs-most : (rows : List ℕ) (q n : ℕ) → length (pairs_from rows q n) ≤ 2 * n
unfolding pairs_from
pairs-most rows q zero = omega arith
pairs-most rows q (suc n) =
    simp length-append (omega (arith, pairs-most rows (q + 1) n, pair-most (get_or rows (q / 32) 0) q))

pub pair-bytes-even : (rows : List ℕ) → length (pair_bytes rows) % 2 ≡ 0
unfolding pair_bytes
pair-bytes-even rows = pairs-even rows 0 1024

pub pair-bytes-most : (rows : List ℕ) → length (pair_bytes rows) ≤ 2048
unfolding pair_bytes
pair-bytes-most rows = pairs-most rows 0 1024
