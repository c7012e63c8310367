-- The plan writer's blocks. Numbers of c table bytes, joined two by two, are numbers of twice as many; after three passes they are the file's bytes.
-- Then the runs of bytes that the blocks and the rest store, one after the other. Assumes nothing.
use Prim.Native.Nat.{ℕ, zero, suc, ◌+◌, ◌-◌, ◌*◌, ◌/◌, ◌%◌, ◌^◌, ◌≤◌, ◌<◌}
use mathlib.Core.Path.{◌≡◌, sym, ap, ap₂, ◌∙◌}
use mathlib.Core.List.{List, ◌++◌, append_assoc}
use native.Mathlib.Nat.{zero-add, mul-suc, mul_assoc, mul_left_comm, mul_right_comm, mul-le-mul_left}
use native.Mathlib.Nat.{div-eq_of_lt, add-mul-div_right, add-mul-mod_self_right, mod-eq_of_lt}
use native.Mathlib.Omega.{arith}
use lib.ListN.{length, get_or, set, take}
use borrow.Rule.Slice.PartMut.{put_mid}
use lib.Pow.{pow_pos, pow_mono, pow-add}
use lib.Seq.{sets, sets-eq, drop-drop, ext_get_or, get_or-take, get_or-set_same, get_or-set_other, length-take-le}
use borrow.Author.Count.{below_more}
use Rattle.laws.proofs.Stores.{sets-append}
use Rattle.planbits.specs.Bits.{one, ones, packed_from}
use Rattle.planbits.specs.Block.{Runs, Joined}
use Rattle.planbits.proofs.Bits.{ones_lt, ones-both, length-packed, packed-at}
use Rattle.laws.specs.Part.{Below}

-- a turn of a pass: what holds of the numbers before i, and of the one stored there
pub more :
    (f : ℕ → ℕ) (v : List ℕ) (i x : ℕ) → i < length v → ((k : ℕ) → k < i → get_or v k 0 ≡ f k) → x ≡ f i →
    (k : ℕ) → k < i + 1 → get_or (set v i x) k 0 ≡ f k
more f v i x h all here =
    below_more (λ (k : ℕ). get_or (set v i x) k 0 ≡ f k) i (λ k l. get_or-set_other v i k x 0 (λ e. omega arith) ∙ all k l)
    (get_or-set_same v i x 0 h ∙ here)

-- ---- two numbers in a word of two bytes

-- numbers of c bits: the word shifted by 8 - c has the high one where it is due, and nothing else in its low byte
pub pair-joined :
    (c low high : ℕ) → c ≤ 4 → low < 2 ^ c → high < 2 ^ c →
    (low + 256 * high + (low + 256 * high) / 2 ^ (8 - c)) % 256 ≡ low + 2 ^ c * high
pair-joined c low high few l h =
    let w = 2 ^ c in
    let d = 2 ^ (8 - c) in
    let e : c + (8 - c) ≡ 8 = omega arith in
    let whole : w * d ≡ 256 = sym (pow-add 2 c (8 - c)) ∙ ap (λ (n : ℕ). 2 ^ n) e in
    let wide : w ≤ d = pow_mono {i = c} {j = 8 - c} (omega arith) in
    let top : 256 * high ≡ w * high * d = ap (λ (n : ℕ). n * high) (sym whole) ∙ mul_right_comm w d high in
    let q : (low + 256 * high) / d ≡ w * high =
    ap (λ (n : ℕ). (low + n) / d) top
    ∙ add-mul-div_right low (w * high) (pow_pos (8 - c))
    ∙ ap (λ (n : ℕ). n + w * high) (div-eq_of_lt (omega arith))
    ∙ zero-add (w * high) in
    let s : low + 256 * high + w * high ≡ low + w * high + high * 256 = omega arith in
    let room : w * suc high ≤ w * d = mul-le-mul_left w (omega arith) in
    let less : low + w * high < 256 = omega (arith, room, whole, mul-suc w high) in
    rw (q, s, add-mul-mod_self_right) (mod-eq_of_lt less)

-- ---- numbers of table bytes

module _ (t : List ℕ) where
  -- the bit of one byte is the number of that byte
  pub one-run : (k i x : ℕ) → x ≡ one (get_or t (k + i) 0) → x ≡ ones t (k + 1 * i) 1
  unfolding ones
  one-run k i x e =
      let a : k + 1 * i ≡ k + i = omega arith in
      rw a (omega arith)

  -- numbers of c bytes are below 2 to the power c
  pub runs-below : (v : List ℕ) (k c n : ℕ) → Runs t k c n v → Below (2 ^ c) n v
  runs-below v k c n runs i l = rw (runs i l) (ones_lt t c (k + c * i))

  -- joined, they are numbers of twice as many bytes
  pub join : (u v : List ℕ) (k c n : ℕ) → Runs t k c (2 * n) u → Joined (2 ^ c) n u v → Runs t k (2 * c) n v
  join u v k c n runs joined i l =
      let left : k + c * (2 * i) ≡ k + 2 * c * i = ap (λ (m : ℕ). k + m) (mul_left_comm c 2 i ∙ sym (mul_assoc 2 c i)) in
      let right : k + c * (2 * i + 1) ≡ k + 2 * c * i + c = omega (arith, left, mul-suc c (2 * i)) in
      let twice : 2 * c ≡ c + c = omega arith in
      joined i l
      ∙ ap₂ (λ (x y : ℕ). x + 2 ^ c * y)
      (runs (2 * i) (omega arith) ∙ ap (λ (q : ℕ). ones t q c) left)
      (runs (2 * i + 1) (omega arith) ∙ ap (λ (q : ℕ). ones t q c) right)
      ∙ sym (ap (ones t (k + 2 * c * i)) twice ∙ ones-both t c c (k + 2 * c * i))

  -- numbers of eight bytes are the file's
  pub runs-packed : (v : List ℕ) (k n : ℕ) → n ≤ length v → Runs t k 8 n v → take n v ≡ packed_from t k n
  runs-packed v k n h runs = ext_get_or 0 (take n v) (packed_from t k n) (length-take-le n v h ∙ sym (length-packed t n k)) at
    where
      at : (i : ℕ) → i < length (take n v) → get_or (take n v) i 0 ≡ get_or (packed_from t k n) i 0
      at i l =
          let g : i < n = omega (arith, length-take-le n v h) in
          get_or-take n v i 0 g ∙ runs i g ∙ sym (packed-at t n k i g)

-- ---- stores

-- 32 bytes copied to `at` are stored there
pub copied : (out bytes r : List ℕ) (at : ℕ) → length bytes ≡ 32 → at + 32 ≤ length out → r ≡ bytes → put_mid at (at + 32 - at) out r ≡ sets out at bytes
copied out bytes r at size fits e =
    let n : at + 32 - at ≡ length bytes = omega (arith, size) in
    rw (e, n, sets-eq bytes out at (omega (arith, size)), drop-drop, append_assoc)

packed-split : (t : List ℕ) (a b k : ℕ) → packed_from t k (a + b) ≡ packed_from t k a ++ packed_from t (k + 8 * a) b
unfolding packed_from
packed-split t zero b k =
    let e : k + 8 * 0 ≡ k = omega arith in
    rw (zero-add b, e)
packed-split t (suc a) b k =
    let e : suc a + b ≡ suc (a + b) = omega arith in
    let f : k + 8 * suc a ≡ k + 8 + 8 * a = omega arith in
    rw (e, f, ← packed-split t a b (k + 8))

-- a bytes, and b bytes after them
pub put-after :
    (t out : List ℕ) (at k a b : ℕ) →
    sets (sets out at (packed_from t k a)) (at + a) (packed_from t (k + 8 * a) b) ≡ sets out at (packed_from t k (a + b))
put-after t out at k a b =
    sym (ap (sets out at) (packed-split t a b k)
    ∙ sets-append out at (packed_from t k a) (packed_from t (k + 8 * a) b)
    ∙ ap (λ (n : ℕ). sets (sets out at (packed_from t k a)) (at + n) (packed_from t (k + 8 * a) b)) (length-packed t a k))

-- a turn of `put_blocks`, and its end
pub block-step :
    (t out : List ℕ) (at j b : ℕ) → j < b →
    sets (sets out (at + 32 * j) (packed_from t (8 * (32 * j)) 32)) (at + 32 * (j + 1)) (packed_from t (8 * (32 * (j + 1))) (32 * (b - (j + 1))))
    ≡ sets out (at + 32 * j) (packed_from t (8 * (32 * j)) (32 * (b - j)))
block-step t out at j b h =
    let e : 32 * (b - j) ≡ 32 + 32 * (b - (j + 1)) = omega arith in
    let f : 8 * (32 * (j + 1)) ≡ 8 * (32 * j) + 8 * 32 = omega arith in
    let g : at + 32 * (j + 1) ≡ at + 32 * j + 32 = omega arith in
    rw (e, f, g) (put-after t out (at + 32 * j) (8 * (32 * j)) 32 (32 * (b - (j + 1))))

pub block-end : (t out : List ℕ) (at j b : ℕ) → b ≤ j → sets out (at + 32 * j) (packed_from t (8 * (32 * j)) (32 * (b - j))) ≡ out
unfolding packed_from
block-end t out at j b h =
    let e : 32 * (b - j) ≡ 0 = omega arith in
    rw e

-- the blocks and the rest
pub put_all :
    (t out : List ℕ) (at a m : ℕ) → a ≤ m →
    sets (sets out at (packed_from t 0 a)) (at + a) (packed_from t (8 * a) (m - a)) ≡ sets out at (packed_from t 0 m)
put_all t out at a m h =
    let e : a + (m - a) ≡ m = omega arith in
    ap (λ (k : ℕ). sets (sets out at (packed_from t 0 a)) (at + a) (packed_from t k (m - a))) (sym (zero-add (8 * a)))
    ∙ put-after t out at 0 a (m - a)
    ∙ ap (λ (n : ℕ). sets out at (packed_from t 0 n)) e
