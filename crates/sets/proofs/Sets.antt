-- The laws of sets: a position of a word, a word of a test, counts word by word, and the set of a test. Assumes nothing.
use mathlib.Core.Path.{◌≡◌, refl, sym, ap, ap₂, ◌∙◌}
use mathlib.Core.Bool.{Bool, true, false, ◌&&◌, not}
use mathlib.Core.List.{List, [], ◌∷◌}
use mathlib.Core.Logic.{⊎_elim}
use Prim.Native.Nat.{ℕ, zero, suc, ◌+◌, ◌-◌, ◌*◌, ◌/◌, ◌%◌, ◌≤◌, ◌<◌}
use native.Mathlib.Omega.{arith}
use lib.Dec.{ltb}
use lib.ListN.{length, get_or, set, length-set}
use lib.Seq.{sets, get_or-set_same}
use borrow.Author.Tests.{lt-ltb, le-ltb, ltb-true, ltb-false}
use Rattle.laws.specs.Bits.{bit_at, word_of}
use Rattle.laws.specs.Part.{list_of}
use Rattle.laws.specs.Sum.{bit, count}
use Rattle.laws.proofs.Choice.{cases}
use Rattle.laws.proofs.Stores.{list-eq, sets-at, list_at, length-list, sets-before}
use Rattle.laws.specs.Few.{first_few}
use Rattle.laws.proofs.Sums.{sum-eq, sum-split, count-below}
use Rattle.laws.proofs.Words.{word-bit, word-eq}
use Rattle.positions.specs.Blocked.{word_in}
use Rattle.positions.proofs.Counts.{blocked-at}
use Rattle.sets.specs.Sets.{in_set, set_in}

-- ---- positions and words

-- the set of a test has the positions that pass
pub in-set : (p : ℕ → Bool) (w k : ℕ) (l : List ℕ) → w ≤ length l → k < 64 * w → in_set (sets l 0 (set_in p w)) k ≡ p k
in-set p w k l fits h =
    let e : 64 * (k / 64) + k % 64 ≡ k = omega arith in
    ap (λ (x : ℕ). bit_at x (k % 64)) (sets-at (word_in p) w l (k / 64) (omega arith) fits)
    ∙ word-bit (λ b. p (64 * (k / 64) + b)) 64 (k % 64) (omega arith)
    ∙ ap p e

-- tests that agree below 64 w have one set
pub set_same : (p q : ℕ → Bool) (w : ℕ) → ((k : ℕ) → k < 64 * w → p k ≡ q k) → set_in p w ≡ set_in q w
set_same p q w h = list-eq (word_in p) (word_in q) w (λ j l. word-eq (λ b. p (64 * j + b)) (λ b. q (64 * j + b)) 64 (λ b m. h (64 * j + b) (omega arith)))

-- word j of a set, asked bit by bit
pub own-word : (set : List ℕ) (j : ℕ) → word_of (bit_at (get_or set j 0)) 64 ≡ word_in (in_set set) j
own-word set j = word-eq (bit_at (get_or set j 0)) (λ b. in_set set (64 * j + b)) 64 (λ b h. sym (blocked-at set j b h))

-- word j of two sets, asked bit by bit
pub two-word : (f : Bool → Bool → Bool) (set with : List ℕ) (j : ℕ)
    → word_of (λ b. f (bit_at (get_or set j 0) b) (bit_at (get_or with j 0) b)) 64 ≡ word_in (λ k. f (in_set set k) (in_set with k)) j
two-word f set with j =
    word-eq (λ b. f (bit_at (get_or set j 0) b) (bit_at (get_or with j 0) b)) (λ b. f (in_set set (64 * j + b)) (in_set with (64 * j + b))) 64
    (λ b h. ap₂ f (sym (blocked-at set j b h)) (sym (blocked-at with j b h)))

-- one word more of two sets
pub count-two : (f : Bool → Bool → Bool) (a b : List ℕ) (j : ℕ)
    → count (λ k. f (in_set a k) (in_set b k)) (64 * (j + 1))
    ≡ count (λ k. f (in_set a k) (in_set b k)) (64 * j) + count (λ q. f (bit_at (get_or a j 0) q) (bit_at (get_or b j 0) q)) 64
count-two f a b j =
    let e : 64 * (j + 1) ≡ 64 * j + 64 = omega arith in
    ap (count (λ k. f (in_set a k) (in_set b k))) e
    ∙ sum-split (λ k. bit (f (in_set a k) (in_set b k))) (64 * j) 64
    ∙ ap (λ (n : ℕ). count (λ k. f (in_set a k) (in_set b k)) (64 * j) + n)
    (sum-eq (λ q. bit (f (in_set a (64 * j + q)) (in_set b (64 * j + q)))) (λ q. bit (f (bit_at (get_or a j 0) q) (bit_at (get_or b j 0) q))) 64
    (λ q l. ap₂ (λ s t. bit (f s t)) (blocked-at a j q l) (blocked-at b j q l)))

-- ---- the first positions

pub low_word : (n j : ℕ) → word_of (λ b. ltb b (n - 64 * j)) 64 ≡ word_in (λ k. ltb k n) j
low_word n j = word-eq (λ b. ltb b (n - 64 * j)) (λ b. ltb (64 * j + b) n) 64 (λ b l.
    ⊎_elim (λ (t : ltb (64 * j + b) n ≡ true). lt-ltb b (n - 64 * j) (omega (arith, ltb-true (64 * j + b) n t)) ∙ sym t)
    (λ (t : ltb (64 * j + b) n ≡ false). le-ltb b (n - 64 * j) (omega (arith, ltb-false (64 * j + b) n t)) ∙ sym t) (cases (ltb (64 * j + b) n)))

-- ---- a set that begins at a word further on

-- word j of a set without one that begins at word `at`
pub away-word : (set with : List ℕ) (at j : ℕ)
    → word_of (λ b. bit_at (get_or set j 0) b && not (bit_at (get_or with (at + j) 0) b)) 64 ≡ word_in (λ k. in_set set k && not (in_set with (64 * at + k))) j
away-word set with at j =
    word-eq (λ b. bit_at (get_or set j 0) b && not (bit_at (get_or with (at + j) 0) b))
    (λ b. in_set set (64 * j + b) && not (in_set with (64 * at + (64 * j + b)))) 64
    (λ b h.
    let e : 64 * (at + j) + b ≡ 64 * at + (64 * j + b) = omega arith in
    ap₂ (λ s t. s && not t) (sym (blocked-at set j b h)) (sym (blocked-at with (at + j) b h) ∙ ap (in_set with) e))

-- what is stored at a place is found
sets-inside : (v l : List ℕ) (i j : ℕ) → j < length v → i + length v ≤ length l → get_or (sets l i v) (i + j) 0 ≡ get_or v j 0
sets-inside [] l i j h fits = absurd (omega arith)
sets-inside (x ∷ v) l i zero h fits =
    let e : i + 0 ≡ i = omega arith in
    ap (λ (k : ℕ). get_or (sets (set l i x) (suc i) v) k 0) e ∙ sets-before v (set l i x) (suc i) i (omega arith) ∙ get_or-set_same l i x 0 (omega arith)
sets-inside (x ∷ v) l i (suc j) h fits =
    let e : i + suc j ≡ suc i + j = omega arith in
    ap (λ (k : ℕ). get_or (sets (set l i x) (suc i) v) k 0) e
    ∙ sets-inside v (set l i x) (suc i) j (omega arith) (omega (arith, length-set l i x))

-- a set stored at word `at`: the sets before it stay, and it has the positions that pass
pub set_before : (v l : List ℕ) (at k : ℕ) → k < 64 * at → in_set (sets l at v) k ≡ in_set l k
set_before v l at k h = ap (λ (x : ℕ). bit_at x (k % 64)) (sets-before v l at (k / 64) (omega arith))

pub set_there : (p : ℕ → Bool) (w k at : ℕ) (l : List ℕ) → at + w ≤ length l → k < 64 * w → in_set (sets l at (set_in p w)) (64 * at + k) ≡ p k
set_there p w k at l fits h =
    let d : (64 * at + k) / 64 ≡ at + k / 64 = omega arith in
    let m : (64 * at + k) % 64 ≡ k % 64 = omega arith in
    let e : 64 * (k / 64) + k % 64 ≡ k = omega arith in
    ap₂ (λ (q r : ℕ). bit_at (get_or (sets l at (set_in p w)) q 0) r) d m
    ∙ ap (λ (x : ℕ). bit_at x (k % 64))
    (sets-inside (set_in p w) l at (k / 64) (omega (arith, length-list (word_in p) w)) (omega (arith, length-list (word_in p) w))
    ∙ list_at (word_in p) w (k / 64) (omega arith))
    ∙ word-bit (λ b. p (64 * (k / 64) + b)) 64 (k % 64) (omega arith)
    ∙ ap p e

-- the words of a set, read again
pub set_words : (p : ℕ → Bool) (w : ℕ) (l s : List ℕ) → w ≤ length l → s ≡ sets l 0 (set_in p w) → list_of (λ j. get_or s j 0) w ≡ set_in p w
set_words p w l s fits e =
    list-eq (λ j. get_or s j 0) (word_in p) w (λ j h. ap (λ (z : List ℕ). get_or z j 0) e ∙ sets-at (word_in p) w l j h fits)

-- a set with no more than m positions is its own first m
pub few-whole : (set : List ℕ) (w m : ℕ) → count (in_set set) (64 * w) ≤ m → set_in (in_set set) w ≡ set_in (first_few (in_set set) m) w
few-whole set w m few = set_same (in_set set) (first_few (in_set set) m) w (λ k h. all k h (in_set set k) refl)
  where
    all : (k : ℕ) → k < 64 * w → (b : Bool) → in_set set k ≡ b → b ≡ (b && ltb (count (in_set set) k) m)
    all k h false e = refl
    all k h true e = sym (lt-ltb (count (in_set set) k) m (omega (arith, count-below (in_set set) k (64 * w) h e)))
