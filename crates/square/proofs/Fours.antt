-- Words of four rows of 16 bits: where each bit of a traded word is taken from.
-- After two trades between words and two within them that place is the turned one.
-- Both that a mask moves no bit out of its word and that the trades turn the places are tests over all of them, which are computed.
-- Assumes nothing.
use mathlib.Core.Path.{◌≡◌, refl, ap, ap₂, ◌∙◌}
use mathlib.Core.Bool.{Bool, true, false, not}
use mathlib.Core.List.{List}
use Prim.Native.Nat.{ℕ, zero, suc, ◌+◌, ◌*◌, ◌-◌, ◌/◌, ◌%◌, ◌^◌, ◌≤◌, ◌<◌}
use native.Mathlib.Nat.{mod-lt, lt_of_le_of_lt}
use native.Mathlib.Omega.{arith}
use lib.Bits.{bit_and, bit_xor, and_le_l, xor_lt}
use lib.Dec.{eqb, ltb, leb, lit<}
use lib.ListN.{get_or}
use borrow.Author.Tests.{eqb-true, ltb-true, leb-true, not-false}
use Rattle.laws.specs.Bits.{bit_at, bit_in, word_of}
use Rattle.laws.specs.Choice.{pick}
use Rattle.laws.specs.Sum.{any}
use Rattle.laws.proofs.Any.{any_none}
use Rattle.laws.proofs.Bits.{xor-bit, and-bit, shr-bit, shl-bit, mod-bit}
use Rattle.laws.proofs.Words.{word-bit, word-eq, word_mod, bits-eq, word_split}
use Rattle.laws.proofs.Stores.{list_at}
use Rattle.square.specs.Turned.{turned_fours}
use Rattle.square.specs.Fours.{mixed_of, traded_of, inner_of}

-- ---- two words mixed

mix-digit : (u v w : ℕ) → u < 2 → v < 2 → w < 2 → eqb (bit_xor u (bit_and (bit_xor u v) w)) 1 ≡ pick (eqb w 1) (eqb v 1) (eqb u 1)
mix-digit zero zero zero a b c = refl
mix-digit zero zero (suc zero) a b c = refl
mix-digit zero (suc zero) zero a b c = refl
mix-digit zero (suc zero) (suc zero) a b c = refl
mix-digit (suc zero) zero zero a b c = refl
mix-digit (suc zero) zero (suc zero) a b c = refl
mix-digit (suc zero) (suc zero) zero a b c = refl
mix-digit (suc zero) (suc zero) (suc zero) a b c = refl
mix-digit (suc (suc u)) v w a b c = absurd (omega arith)
mix-digit zero (suc (suc v)) w a b c = absurd (omega arith)
mix-digit (suc zero) (suc (suc v)) w a b c = absurd (omega arith)
mix-digit zero zero (suc (suc w)) a b c = absurd (omega arith)
mix-digit zero (suc zero) (suc (suc w)) a b c = absurd (omega arith)
mix-digit (suc zero) zero (suc (suc w)) a b c = absurd (omega arith)
mix-digit (suc zero) (suc zero) (suc (suc w)) a b c = absurd (omega arith)

module _ (mask x y : ℕ) where
  mix-bit : (q : ℕ) → bit_at (bit_xor x (bit_and (bit_xor x y) mask)) q ≡ pick (bit_at mask q) (bit_at y q) (bit_at x q)
  mix-bit q =
      ap (λ (n : ℕ). eqb n 1)
      (xor-bit x (bit_and (bit_xor x y) mask) q
      ∙ ap (bit_xor (x / 2 ^ q % 2)) (and-bit (bit_xor x y) mask q ∙ ap (λ (n : ℕ). bit_and n (mask / 2 ^ q % 2)) (xor-bit x y q)))
      ∙ mix-digit (x / 2 ^ q % 2) (y / 2 ^ q % 2) (mask / 2 ^ q % 2) (mod-lt (x / 2 ^ q) (lit< tt)) (mod-lt (y / 2 ^ q) (lit< tt))
      (mod-lt (mask / 2 ^ q) (lit< tt))

  pub mix-word : x < 2 ^ 64 → y < 2 ^ 64 → bit_xor x (bit_and (bit_xor x y) mask) ≡ mixed_of mask x y
  unfolding mixed_of
  mix-word h g =
      bits-eq (λ q. pick (bit_at mask q) (bit_at y q) (bit_at x q)) (bit_xor x (bit_and (bit_xor x y) mask)) 64
      (xor_lt 64 x (bit_and (bit_xor x y) mask) h (lt_of_le_of_lt (and_le_l (bit_xor x y) mask) (xor_lt 64 x y h g)))
      (λ q l. mix-bit q)

cut-bit : (z j : ℕ) → j < 64 → bit_at (z % 2 ^ 64) j ≡ bit_at z j
cut-bit z j h =
    let e : 64 ≡ suc (63 - j) + j = omega arith in
    ap (λ (n : ℕ). bit_at (z % 2 ^ n) j) e ∙ ap (λ (n : ℕ). eqb n 1) (mod-bit z j (63 - j))

pub trade-word : (d down up x y : ℕ) → mixed_of up (mixed_of down x (y / 2 ^ d)) (y * 2 ^ d % 2 ^ 64) ≡ traded_of d down up x y
unfolding mixed_of traded_of
trade-word d down up x y =
    word-eq (λ q. pick (bit_at up q) (bit_at (y * 2 ^ d % 2 ^ 64) q) (bit_at (mixed_of down x (y / 2 ^ d)) q))
    (λ q. pick (bit_at up q) (bit_at (y * 2 ^ d) q) (pick (bit_at down q) (bit_at (y / 2 ^ d) q) (bit_at x q))) 64
    (λ q l.
    ap₂ (pick (bit_at up q)) (cut-bit (y * 2 ^ d) q l) (word-bit (λ q. pick (bit_at down q) (bit_at (y / 2 ^ d) q) (bit_at x q)) 64 q l))

-- ---- places

-- where a traded word has its bit q from, by the places of the two words
abbrev pub placed : ℕ → ℕ → ℕ → (ℕ → ℕ) → (ℕ → ℕ) → ℕ → ℕ
placed d down up F G q = pick (bit_at up q) (G (q - d)) (pick (bit_at down q) (G (q + d)) (F q))

-- no bit is moved out of its word
abbrev fit : ℕ → Bool → Bool → ℕ → Bool
fit d u v q = pick u (leb d q) (pick v (ltb (q + d) 64) true)

abbrev pub Fits : ℕ → ℕ → ℕ → Type 0
Fits d down up = any (λ q. not (fit d (bit_at up q) (bit_at down q) q)) 64 ≡ false

-- the words turned over: bit q of word k comes from bit 4 k + q / 16 of row q % 16
abbrev pub Turned : (ℕ → ℕ) → ℕ → Type 0
Turned F k = any (λ q. not (eqb (F q) (16 * (q % 16) + (4 * k + q / 16)))) 64 ≡ false

module _ (rows : List ℕ) where
  -- the bit at a place, 16 to a row, and the word with bits from places
  abbrev at : ℕ → Bool
  at n = bit_in rows (n / 16) (n % 16)

  abbrev pub held : (ℕ → ℕ) → ℕ
  held F = word_of (λ q. at (F q)) 64

  module _ (d : ℕ) (F G : ℕ → ℕ) where
    one : (u v : Bool) (q : ℕ) → fit d u v q ≡ true → q < 64
        → pick u (bit_at (held G * 2 ^ d) q) (pick v (bit_at (held G / 2 ^ d) q) (bit_at (held F) q)) ≡ at (pick u (G (q - d)) (pick v (G (q + d)) (F q)))
    one true v q f l =
        let h : d ≤ q = leb-true d q f in
        let e : q ≡ d + (q - d) = omega arith in
        ap (λ (n : ℕ). eqb (held G * 2 ^ d / 2 ^ n % 2) 1) e
        ∙ ap (λ (n : ℕ). eqb n 1) (shl-bit (held G) d (q - d))
        ∙ word-bit (λ q. at (G q)) 64 (q - d) (omega arith)
    one false true q f l =
        let h : q + d < 64 = ltb-true (q + d) 64 f in
        let e : d + q ≡ q + d = omega arith in
        ap (λ (n : ℕ). eqb n 1) (shr-bit (held G) d q)
        ∙ ap (λ (n : ℕ). bit_at (held G) n) e
        ∙ word-bit (λ q. at (G q)) 64 (q + d) h
    one false false q f l = word-bit (λ q. at (F q)) 64 q l

    pub traded-held : (down up x y r : ℕ) → Fits d down up → x ≡ held F → y ≡ held G → r ≡ traded_of d down up x y → r ≡ held (placed d down up F G)
    unfolding traded_of
    traded-held down up x y r fits e g t =
        t
        ∙ ap₂ (traded_of d down up) e g
        ∙ word-eq (λ q. pick (bit_at up q) (bit_at (held G * 2 ^ d) q) (pick (bit_at down q) (bit_at (held G / 2 ^ d) q) (bit_at (held F) q)))
        (λ q. at (placed d down up F G q)) 64
        (λ q l.
        one (bit_at up q) (bit_at down q) q
        (not-false _ (any_none (λ q. not (fit d (bit_at up q) (bit_at down q) q)) 64 fits q l)) l)

  -- the first places, and the last
  pub starts : (k : ℕ) → word_of (λ q. bit_in rows (k + q / 16) (q % 16)) 64 ≡ held (λ q. 16 * k + q)
  starts k =
      word-eq (λ q. bit_in rows (k + q / 16) (q % 16)) (λ q. at (16 * k + q)) 64 (λ q l.
      let e : k + q / 16 ≡ (16 * k + q) / 16 = omega arith in
      let f : q % 16 ≡ (16 * k + q) % 16 = omega arith in
      ap₂ (bit_in rows) e f)

  pub ends : (F : ℕ → ℕ) (k : ℕ) → k < 4 → Turned F k → held F ≡ word_of (λ q. bit_in rows (q % 16) (4 * k + q / 16)) 64
  ends F k few turned =
      word-eq (λ q. at (F q)) (λ q. bit_in rows (q % 16) (4 * k + q / 16)) 64 (λ q l.
      let t : F q ≡ 16 * (q % 16) + (4 * k + q / 16) =
      eqb-true (F q) (16 * (q % 16) + (4 * k + q / 16))
      (not-false _ (any_none (λ q. not (eqb (F q) (16 * (q % 16) + (4 * k + q / 16)))) 64 turned q l)) in
      let e : (16 * (q % 16) + (4 * k + q / 16)) / 16 ≡ q % 16 = omega arith in
      let f : (16 * (q % 16) + (4 * k + q / 16)) % 16 ≡ 4 * k + q / 16 = omega arith in
      ap at t ∙ ap₂ (bit_in rows) e f)

-- ---- four rows in a word

pub low_part : (x : ℕ) (p : ℕ → Bool) → ((b : ℕ) → b < 16 → bit_at x b ≡ p b) → x % 65536 ≡ word_of p 16
low_part x p h = word_mod x 16 ∙ word-eq (bit_at x) p 16 h

pub four-parts : (rows : List ℕ) (k : ℕ) →
    get_or rows k 0 % 65536 + get_or rows (k + 1) 0 % 65536 * 65536 + get_or rows (k + 2) 0 % 65536 * 4294967296 + get_or rows
    (k + 3) 0 % 65536 * 281474976710656
    ≡ word_of (λ q. bit_in rows (k + q / 16) (q % 16)) 64
four-parts rows k =
    let p : ℕ → Bool = λ q. bit_in rows (k + q / 16) (q % 16) in
    let part : (i x : ℕ) → x ≡ get_or rows (k + i) 0 → x % 65536 ≡ word_of (λ b. p (16 * i + b)) 16
    = λ i x e. low_part x (λ b. p (16 * i + b)) (λ b l.
    let d : k + i ≡ k + (16 * i + b) / 16 = omega arith in
    let m : b ≡ (16 * i + b) % 16 = omega arith in
    ap (λ (y : ℕ). bit_at y b) e ∙ ap₂ (bit_in rows) d m) in
    let z : k ≡ k + 0 = omega arith in
    let e₀ : get_or rows k 0 % 65536 ≡ word_of (λ b. p (16 * 0 + b)) 16 = part 0 (get_or rows k 0) (ap (λ (n : ℕ). get_or rows n 0) z) in
    let e₁ : get_or rows (k + 1) 0 % 65536 ≡ word_of (λ b. p (16 * 1 + b)) 16 = part 1 (get_or rows (k + 1) 0) refl in
    let e₂ : get_or rows (k + 2) 0 % 65536 ≡ word_of (λ b. p (16 * 2 + b)) 16 = part 2 (get_or rows (k + 2) 0) refl in
    let e₃ : get_or rows (k + 3) 0 % 65536 ≡ word_of (λ b. p (16 * 3 + b)) 16 = part 3 (get_or rows (k + 3) 0) refl in
    let f₀ : word_of (λ b. p (16 * 0 + b)) 16 ≡ word_of p 16 = word-eq (λ b. p (16 * 0 + b)) p 16 (λ b l. let g : 16 * 0 + b ≡ b = omega arith in ap p g) in
    let s₁ : word_of p 32 ≡ word_of p 16 + 2 ^ 16 * word_of (λ b. p (16 + b)) 16 = word_split p 16 16 in
    let s₂ : word_of p 48 ≡ word_of p 32 + 2 ^ 32 * word_of (λ b. p (32 + b)) 16 = word_split p 32 16 in
    let s₃ : word_of p 64 ≡ word_of p 48 + 2 ^ 48 * word_of (λ b. p (48 + b)) 16 = word_split p 48 16 in
    omega (arith, e₀, e₁, e₂, e₃, f₀, s₁, s₂, s₃)

pub row-part : (w i : ℕ) → w / 2 ^ (16 * i) % 65536 ≡ word_of (λ b. bit_at w (16 * i + b)) 16
row-part w i = low_part (w / 2 ^ (16 * i)) (λ b. bit_at w (16 * i + b)) (λ b l. ap (λ (n : ℕ). eqb n 1) (shr-bit w (16 * i) b))

-- ---- the two trades within a word

abbrev pub inner_placed : (ℕ → ℕ) → ℕ → ℕ
inner_placed F =
    placed 15 187647121205930 6148820867675914240
    (placed 30 3435973836 3689348813882916864 F F)
    (placed 30 3435973836 3689348813882916864 F F)

pub inner-held : (rows : List ℕ) (F : ℕ → ℕ) (x r : ℕ) → x ≡ held rows F → r ≡ inner_of x → r ≡ held rows (inner_placed F)
unfolding any
inner-held rows F x r e t =
    let G : ℕ → ℕ = placed 30 3435973836 3689348813882916864 F F in
    let y : ℕ = traded_of 30 3435973836 3689348813882916864 x x in
    let g : y ≡ held rows G = traded-held rows 30 F F 3435973836 3689348813882916864 x x y refl e e refl in
    traded-held rows 15 G G 187647121205930 6148820867675914240 y y r refl g g t

-- ---- a row of a turned word

pub fours-row : (rows : List ℕ) (a b : ℕ) → a < 16 → b < 16 → bit_in (turned_fours rows) (a / 4) (16 * (a % 4) + b) ≡ bit_in rows b a
unfolding turned_fours
fours-row rows a b h g =
    let e : (16 * (a % 4) + b) % 16 ≡ b = omega arith in
    let f : 4 * (a / 4) + (16 * (a % 4) + b) / 16 ≡ a = omega arith in
    ap (λ (x : ℕ). bit_at x (16 * (a % 4) + b))
    (list_at (λ k. word_of (λ q. bit_in rows (q % 16) (4 * k + q / 16)) 64) 4 (a / 4) (omega arith))
    ∙ word-bit (λ q. bit_in rows (q % 16) (4 * (a / 4) + q / 16)) 64 (16 * (a % 4) + b) (omega arith)
    ∙ ap₂ (bit_in rows) e f
