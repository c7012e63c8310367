-- The words of a set joined, and the bytes that bar its positions. Assumes nothing.
use mathlib.Core.Path.{◌≡◌, refl, sym, ap, ◌∙◌}
use mathlib.Core.Bool.{Bool, true, false, not, ◌&&◌, ◌||◌, or-false, or_assoc, not-not}
use mathlib.Core.List.{List}
use mathlib.Core.Logic.{⊎_elim}
use Prim.Native.Nat.{ℕ, zero, suc, ◌+◌, ◌*◌, ◌/◌, ◌%◌, ◌^◌, ◌≤◌, ◌<◌}
use native.Mathlib.Omega.{arith}
use lib.Bits.{bit_or}
use lib.Dec.{eqb, ltb}
use lib.ListN.{get_or}
use borrow.Author.Tests.{ltb-true, ltb-false}
use Rattle.laws.specs.Bits.{bit_at}
use Rattle.laws.specs.Choice.{pick}
use Rattle.laws.specs.Sum.{any}
use Rattle.laws.proofs.Any.{any-eq}
use Rattle.laws.proofs.Bits.{bit_past, either-some, none_left, none_in, or-none}
use Rattle.laws.proofs.Choice.{cases}
use Rattle.laws.proofs.Words.{word-bits, word-empty}
use Rattle.positions.specs.Blocked.{blocked_at}
use Rattle.positions.proofs.Counts.{blocked-at}

-- so many more to ask
any-add : (p : ℕ → Bool) (n m : ℕ) → any p (n + m) ≡ (any p n || any (λ b. p (n + b)) m)
unfolding any
any-add p n zero = let e : n + 0 ≡ n = omega arith in ap (any p) e ∙ sym (or-false (any p n))
any-add p n (suc m) =
    let e : n + suc m ≡ suc (n + m) = omega arith in
    ap (any p) e ∙ ap (λ t. t || p (n + m)) (any-add p n m) ∙ or_assoc (any p n) (any (λ b. p (n + b)) m) (p (n + m))

-- one word more
any_word : (set : List ℕ) (j : ℕ) → any (blocked_at set) (64 * (j + 1)) ≡ (any (blocked_at set) (64 * j) || any (bit_at (get_or set j 0)) 64)
any_word set j =
    let e : 64 * (j + 1) ≡ 64 * j + 64 = omega arith in
    ap (any (blocked_at set)) e ∙ any-add (blocked_at set) (64 * j) 64
    ∙ ap (λ t. any (blocked_at set) (64 * j) || t) (any-eq (λ b. blocked_at set (64 * j + b)) (bit_at (get_or set j 0)) 64 (λ b l. blocked-at set j b l))

neither : (a b : Bool) → (not a && not b) ≡ not (a || b)
neither true b = refl
neither false b = refl

neither-not : (a b : Bool) → not (not a || not b) ≡ (a && b)
neither-not true b = not-not b
neither-not false b = refl

-- two words joined are 0 where the first is, and the second has no bit
pub join-none : (x y : ℕ) → y < 2 ^ 64 → eqb (bit_or x y) 0 ≡ (eqb x 0 && not (any (bit_at y) 64))
join-none x y h =
    let none : eqb y 0 ≡ not (any (bit_at y) 64) = ap (λ (n : ℕ). eqb n 0) (word-bits y 64 h) ∙ word-empty (bit_at y) 64 in
    sym (not-not (eqb (bit_or x y) 0)) ∙ ap not (either-some x y) ∙ neither-not (eqb x 0) (eqb y 0) ∙ ap (λ t. eqb x 0 && t) none

-- the words below j joined, and word j
pub joined-more : (set : List ℕ) (j all : ℕ) → eqb all 0 ≡ not (any (blocked_at set) (64 * j)) → get_or set j 0 < 2 ^ 64
    → eqb (bit_or all (get_or set j 0)) 0 ≡ not (any (blocked_at set) (64 * (j + 1)))
joined-more set j all so_far small =
    join-none all (get_or set j 0) small ∙ ap (λ t. t && not (any (bit_at (get_or set j 0)) 64)) so_far
    ∙ neither (any (blocked_at set) (64 * j)) (any (bit_at (get_or set j 0)) 64) ∙ sym (ap not (any_word set j))

-- a digit, four times
pub fours : (u : ℕ) → u < 2 → u * 4 ≡ pick (eqb u 1) 4 0
fours zero h = refl
fours (suc zero) h = refl
fours (suc (suc u)) h = absurd (omega arith)

-- ---- the positions at or past one

-- none of the word's bits from n % 64 on, so no position from n to the word's end
pub past_first : (set : List ℕ) (n w : ℕ) → w ≡ n / 64 → get_or set w 0 / 2 ^ (n % 64) ≡ 0
    → (k : ℕ) → n ≤ k → k < 64 * (w + 1) → blocked_at set k ≡ false
past_first set n w e z k h l =
    let d : k / 64 ≡ w = omega arith in
    ap (λ (j : ℕ). bit_at (get_or set j 0) (k % 64)) d
    ∙ bit_past (get_or set w 0) (k % 64) (n % 64) (none_left (get_or set w 0) (n % 64) z) (omega arith)

-- a word more
pub past_more : (set : List ℕ) (n j all : ℕ) → (all ≡ 0 → (k : ℕ) → n ≤ k → k < 64 * j → blocked_at set k ≡ false)
    → bit_or all (get_or set j 0) ≡ 0 → (k : ℕ) → n ≤ k → k < 64 * (j + 1) → blocked_at set k ≡ false
past_more set n j all before e k h l =
    let z = or-none all (get_or set j 0) e in
    ⊎_elim (λ m. before z.0 k h (ltb-true k (64 * j) m))
    (λ m.
    let g : 64 * j ≤ k = ltb-false k (64 * j) m in
    let d : k / 64 ≡ j = omega arith in
    ap (λ (i : ℕ). bit_at (get_or set i 0) (k % 64)) d
    ∙ ap (λ (x : ℕ). bit_at x (k % 64)) z.1
    ∙ none_in (k % 64)) (cases (ltb k (64 * j)))
