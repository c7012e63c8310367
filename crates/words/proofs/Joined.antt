-- A cell's own bit, joined to the mask of its clash row: a word that has it shares something with the mask, and a word of cells below it shares with the mask
-- what it shares with the row. Assumes nothing.
use mathlib.Core.Path.{◌≡◌, refl, sym, ap, ap₂, ◌∙◌}
use mathlib.Core.Bool.{Bool, true, false, ◌&&◌, ◌||◌, not, and-true, and-false, true≢false}
use Prim.Native.Nat.{ℕ, ◌^◌, ◌<◌}
use native.Mathlib.Omega.{arith}
use borrow.Author.Tests.{eq-eqb, ne_eqb, eqb-true}
use lib.Bits.{bit_and, bit_or, or_zero_r}
use lib.Dec.{eqb}
use lib.Pow.{pow_pos}
use Rattle.laws.specs.Bits.{bit_at, set_bit, word_of}
use Rattle.laws.specs.Choice.{pick}
use Rattle.laws.specs.Sum.{any}
use Rattle.laws.proofs.Any.{any-eq}
use Rattle.laws.proofs.Bits.{bit-above, bit-and, bit-set}
use Rattle.laws.proofs.Choice.{refute}
use Rattle.laws.proofs.Words.{word-bits, shares-any}

same_not : (a b : Bool) → not a ≡ not b → a ≡ b
same_not true true e = refl
same_not true false e = absurd (true≢false (sym e))
same_not false true e = absurd (true≢false e)
same_not false false e = refl

-- a word of cells below i shares with the row what it shares with the row and i
pub own-apart : (x row i : ℕ) → x < 2 ^ i → eqb (bit_and x (bit_or row (2 ^ i))) 0 ≡ eqb (bit_and x row) 0
unfolding set_bit
own-apart x row i low =
    let e : x ≡ word_of (bit_at x) i = word-bits x i low in
    let by : (m : ℕ) → not (eqb (bit_and x m) 0) ≡ any (λ c. bit_at x c && bit_at m c) i
    = λ m. ap (λ (z : ℕ). not (eqb (bit_and z m) 0)) e ∙ shares-any (bit_at x) i m in
    same_not (eqb (bit_and x (bit_or row (2 ^ i))) 0) (eqb (bit_and x row) 0)
    (by (bit_or row (2 ^ i))
    ∙ any-eq (λ c. bit_at x c && bit_at (bit_or row (2 ^ i)) c) (λ c. bit_at x c && bit_at row c) i
    (λ c h. ap (λ b. bit_at x c && b) (bit-set row i c ∙ ap (λ b. b || bit_at row c) (ne_eqb c i (λ q. omega arith))))
    ∙ sym (by row))

-- a word with i's bit joined has it
has : (y i : ℕ) → bit_at (bit_or y (2 ^ i)) i ≡ true
unfolding set_bit
has y i = bit-set y i i ∙ ap (λ b. b || bit_at y i) (eq-eqb i i refl)

-- a word that has i's bit shares it with the row and i
pub own-met : (x row i : ℕ) → bit_at x i ≡ true → eqb (bit_and x (bit_or row (2 ^ i))) 0 ≡ false
own-met x row i e =
    refute (eqb (bit_and x (bit_or row (2 ^ i))) 0) (λ none.
    let here : bit_at (bit_and x (bit_or row (2 ^ i))) i ≡ true = bit-and x (bit_or row (2 ^ i)) i ∙ ap₂ ◌&&◌ e (has row i) in
    true≢false (sym here ∙ ap (λ (z : ℕ). bit_at z i) (eqb-true (bit_and x (bit_or row (2 ^ i))) 0 none) ∙ bit-above 0 i (pow_pos i)))

-- where i may be joined: the two share nothing exactly where they shared nothing and it is not
pub own-free : (x row i : ℕ) (t : Bool)
    → eqb (bit_and (bit_or x (pick t (2 ^ i) 0)) (bit_or row (2 ^ i))) 0 ≡ (eqb (bit_and x (bit_or row (2 ^ i))) 0 && not t)
own-free x row i true = own-met (bit_or x (2 ^ i)) row i (has x i) ∙ sym (and-false (eqb (bit_and x (bit_or row (2 ^ i))) 0))
own-free x row i false =
    ap (λ (z : ℕ). eqb (bit_and z (bit_or row (2 ^ i))) 0) (or_zero_r x) ∙ sym (and-true (eqb (bit_and x (bit_or row (2 ^ i))) 0))

-- a bit that is joined at most once
pub joined_once : (x b : ℕ) (s t : Bool) → (t ≡ true → s ≡ false) → bit_or (bit_or x (pick s b 0)) (pick t b 0) ≡ bit_or x (pick (s || t) b 0)
joined_once x b true true h = absurd (true≢false (h refl))
joined_once x b true false h = or_zero_r (bit_or x b)
joined_once x b false t h = ap (λ (z : ℕ). bit_or z (pick t b 0)) (or_zero_r x)
