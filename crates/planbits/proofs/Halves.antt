-- The plan reader's blocks. A byte parted into halves, these again, and these once more, are its bits, the lowest first; so three passes over 32 bytes give the
-- bits of a block. Then the runs of bits that the blocks store, one after the other. Assumes nothing.
use Prim.Native.Nat.{ℕ, zero, suc, ◌+◌, ◌-◌, ◌*◌, ◌/◌, ◌%◌, ◌^◌, ◌≤◌, ◌<◌}
use mathlib.Core.Path.{◌≡◌, sym, ap, ap₂, ◌∙◌}
use mathlib.Core.List.{List}
use native.Mathlib.Omega.{arith}
use lib.Dec.{eqb}
use lib.ListN.{length, get_or, set, replicate, length-replicate}
use lib.Seq.{sets, ext_get_or}
use Rattle.laws.specs.Choice.{pick}
use Rattle.laws.specs.Part.{list_of}
use Rattle.laws.proofs.Stores.{sets-append, sets-after, sets-at, length-list, list_at, list-eq}
use Rattle.records.specs.Bits.{bit_of}
use Rattle.planbits.specs.Bits.{bits_from}
use Rattle.planbits.specs.Block.{half_of}
use Rattle.planbits.proofs.Bits.{length-bits, bits_at, bits-split}

-- ---- a pass

half-low : (c : ℕ) (l : List ℕ) (k i : ℕ) → half_of c l k (2 * i) ≡ get_or l (k + i) 0 % 2 ^ c
half-low c l k i =
    let m : 2 * i % 2 ≡ 0 = omega arith in
    let d : 2 * i / 2 ≡ i = omega arith in
    rw (m, d)

half_high : (c : ℕ) (l : List ℕ) (k i : ℕ) → half_of c l k (2 * i + 1) ≡ get_or l (k + i) 0 / 2 ^ c % 2 ^ c
half_high c l k i =
    let m : (2 * i + 1) % 2 ≡ 1 = omega arith in
    let d : (2 * i + 1) / 2 ≡ i = omega arith in
    rw (m, d)

-- one number more is parted
pub halves-more : (c : ℕ) (l : List ℕ) (k at i v w : ℕ) (x o : List ℕ) → v ≡ get_or l (k + i) 0 % 2 ^ c → w ≡ get_or l (k + i) 0 / 2 ^ c % 2 ^ c
    → x ≡ sets o at (list_of (half_of c l k) (2 * i)) → set (set x (at + 2 * i) v) (at + 2 * i + 1) w ≡ sets o at (list_of (half_of c l k) (2 * (i + 1)))
halves-more c l k at i v w x o ev ew so_far =
    let low : set x (at + 2 * i) v ≡ sets o at (list_of (half_of c l k) (2 * i + 1)) =
    sets-after (half_of c l k) at (2 * i) v x o (ev ∙ sym (half-low c l k i)) so_far in
    let e : at + 2 * i + 1 ≡ at + (2 * i + 1) = omega arith in
    let f : 2 * i + 1 + 1 ≡ 2 * (i + 1) = omega arith in
    ap (λ (q : ℕ). set (set x (at + 2 * i) v) q w) e
    ∙ sets-after (half_of c l k) at (2 * i + 1) w (set x (at + 2 * i) v) o (ew ∙ sym (half_high c l k i)) low
    ∙ ap (λ (q : ℕ). sets o at (list_of (half_of c l k) q)) f

-- ---- three passes

-- the half of a half of a half of a number
third-half : (y a b c : ℕ) → a < 2 → b < 2 → c < 2
    → pick (eqb a 0) (pick (eqb b 0) (pick (eqb c 0) (y % 16) (y / 16 % 16) % 4) (pick (eqb c 0) (y % 16) (y / 16 % 16) / 4 % 4) % 2)
    (pick (eqb b 0) (pick (eqb c 0) (y % 16) (y / 16 % 16) % 4) (pick (eqb c 0) (y % 16) (y / 16 % 16) / 4 % 4) / 2 % 2)
    ≡ y / 2 ^ (4 * c + 2 * b + a) % 2
third-half y zero zero zero la lb lc = let e : y % 16 % 4 % 2 ≡ y / 1 % 2 = omega arith in e
third-half y zero zero (suc zero) la lb lc = let e : y / 16 % 16 % 4 % 2 ≡ y / 16 % 2 = omega arith in e
third-half y zero zero (suc (suc c)) la lb lc = absurd (omega arith)
third-half y zero (suc zero) zero la lb lc = let e : y % 16 / 4 % 4 % 2 ≡ y / 4 % 2 = omega arith in e
third-half y zero (suc zero) (suc zero) la lb lc = let e : y / 16 % 16 / 4 % 4 % 2 ≡ y / 64 % 2 = omega arith in e
third-half y zero (suc zero) (suc (suc c)) la lb lc = absurd (omega arith)
third-half y zero (suc (suc b)) c la lb lc = absurd (omega arith)
third-half y (suc zero) zero zero la lb lc = let e : y % 16 % 4 / 2 % 2 ≡ y / 2 % 2 = omega arith in e
third-half y (suc zero) zero (suc zero) la lb lc = let e : y / 16 % 16 % 4 / 2 % 2 ≡ y / 32 % 2 = omega arith in e
third-half y (suc zero) zero (suc (suc c)) la lb lc = absurd (omega arith)
third-half y (suc zero) (suc zero) zero la lb lc = let e : y % 16 / 4 % 4 / 2 % 2 ≡ y / 8 % 2 = omega arith in e
third-half y (suc zero) (suc zero) (suc zero) la lb lc = let e : y / 16 % 16 / 4 % 4 / 2 % 2 ≡ y / 128 % 2 = omega arith in e
third-half y (suc zero) (suc zero) (suc (suc c)) la lb lc = absurd (omega arith)
third-half y (suc zero) (suc (suc b)) c la lb lc = absurd (omega arith)
third-half y (suc (suc a)) b c la lb lc = absurd (omega arith)

-- the bits of a body from k on, by a rule
bits-list : (s : List ℕ) (k n : ℕ) → list_of (λ q. bit_of s (k + q)) n ≡ bits_from s k n
bits-list s k n = ext_get_or 0 (list_of f n) (bits_from s k n) (length-list f n ∙ sym (length-bits s n k)) at
  where
    f : ℕ → ℕ
    f q = bit_of s (k + q)

    at : (i : ℕ) → i < length (list_of f n) → get_or (list_of f n) i 0 ≡ get_or (bits_from s k n) i 0
    at i h = let g : i < n = omega (arith, length-list f n) in list_at f n i g ∙ sym (bits_at s n k i g)

-- what the passes over the 32 bytes from j on leave
module _ (s : List ℕ) (j : ℕ) (fours twos : List ℕ) (first : fours ≡ sets (replicate 64 0) 0 (list_of (half_of 4 s j) 64))
    (second : twos ≡ sets (replicate 128 0) 0 (list_of (half_of 2 fours 0) 128)) where
  four : (q : ℕ) → q < 64 → get_or fours (0 + q) 0 ≡ half_of 4 s j q
  four q h =
      let e : 0 + q ≡ q = omega arith in
      ap₂ (λ (l : List ℕ) (k : ℕ). get_or l k 0) first e ∙ sets-at (half_of 4 s j) 64 (replicate 64 0) q h (omega (arith, length-replicate {A = ℕ} 64 0))

  two : (q : ℕ) → q < 128 → get_or twos (0 + q) 0 ≡ half_of 2 fours 0 q
  two q h =
      let e : 0 + q ≡ q = omega arith in
      ap₂ (λ (l : List ℕ) (k : ℕ). get_or l k 0) second e ∙ sets-at (half_of 2 fours 0) 128 (replicate 128 0) q h
      (omega (arith, length-replicate {A = ℕ} 128 0))

  bit-here : (q : ℕ) → q < 256 → half_of 1 twos 0 q ≡ bit_of s (8 * j + q)
  bit-here q h =
      let place : j + q / 2 / 2 / 2 ≡ (8 * j + q) / 8 = omega arith in
      let weight : 4 * (q / 2 / 2 % 2) + 2 * (q / 2 % 2) + q % 2 ≡ (8 * j + q) % 8 = omega arith in
      ap (λ (x : ℕ). pick (eqb (q % 2) 0) (x % 2) (x / 2 % 2)) (two (q / 2) (omega arith))
      ∙ ap (λ (x : ℕ). pick (eqb (q % 2) 0) (pick (eqb (q / 2 % 2) 0) (x % 4) (x / 4 % 4) % 2) (pick (eqb (q / 2 % 2) 0) (x % 4) (x / 4 % 4) / 2 % 2))
      (four (q / 2 / 2) (omega arith))
      ∙ third-half (get_or s (j + q / 2 / 2 / 2) 0) (q % 2) (q / 2 % 2) (q / 2 / 2 % 2) (omega arith) (omega arith) (omega arith)
      ∙ ap₂ (λ (k w : ℕ). get_or s k 0 / 2 ^ w % 2) place weight

  pub block-bits : (t r : List ℕ) → r ≡ sets t (8 * j) (list_of (half_of 1 twos 0) 256) → r ≡ sets t (8 * j) (bits_from s (8 * j) 256)
  block-bits t r e = e ∙ ap (sets t (8 * j)) (list-eq (half_of 1 twos 0) (λ q. bit_of s (8 * j + q)) 256 bit-here ∙ bits-list s (8 * j) 256)

-- ---- block by block

-- a turn of `unpack_blocks`'s loop, and its end
pub blocks_step : (s t : List ℕ) (j m : ℕ) → j < m
    → sets (sets t (8 * (32 * j)) (bits_from s (8 * (32 * j)) 256)) (256 * (j + 1)) (bits_from s (256 * (j + 1)) (256 * (m - (j + 1))))
    ≡ sets t (256 * j) (bits_from s (256 * j) (256 * (m - j)))
blocks_step s t j m h =
    let e : 256 * (m - j) ≡ 256 + 256 * (m - (j + 1)) = omega arith in
    let f : 256 * (j + 1) ≡ 256 * j + 256 = omega arith in
    let g : 8 * (32 * j) ≡ 256 * j = omega arith in
    rw (
      e,
      f,
      g,
      bits-split s 256 (256 * (m - (j + 1))) (256 * j),
      sets-append t (256 * j) (bits_from s (256 * j) 256) (bits_from s (256 * j + 256) (256 * (m - (j + 1)))),
      length-bits s 256 (256 * j),
    )

pub blocks_end : (s t : List ℕ) (j m : ℕ) → m ≤ j → sets t (256 * j) (bits_from s (256 * j) (256 * (m - j))) ≡ t
unfolding bits_from
blocks_end s t j m h =
    let e : 256 * (m - j) ≡ 0 = omega arith in
    rw e
