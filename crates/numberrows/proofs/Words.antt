-- The tests on words are those of the definition: where a word has the cells that are left, the cells near to a cell are what its row shares with that word.
--     highest-same          the search that the code makes finds what the definition's does
--     found_within          the cell that it finds is one of the site's
--     all_there, one_out    the word of those left, at first and after a turn
--     misses-word           what a word without another says
-- Assumes nothing.
use mathlib.Core.Path.{◌≡◌, sym, ap, ap₂, ◌∙◌}
use mathlib.Core.Bool.{true, false, ◌&&◌, ◌||◌, not, and_comm, and-true, and-false, not-not}
use mathlib.Core.List.{List}
use mathlib.Core.Logic.{⊎_elim}
use Prim.Native.Nat.{ℕ, ◌-◌, ◌^◌, ◌≤◌, ◌<◌}
use native.Mathlib.Omega.{arith}
use lib.Bits.{bit_and, bit_or}
use lib.Dec.{eqb}
use lib.ListN.{length, get_or, set}
use lib.Seq.{get_or-set_same, get_or-set_other}
use borrow.Author.Tests.{eqb-true, eqb-false, eq-eqb, ne_eqb}
use Rattle.laws.specs.Bits.{bit_at, bit_in, set_bit, word_of}
use Rattle.laws.specs.Sum.{any}
use Rattle.laws.proofs.Any.{any-eq, any-skip}
use Rattle.laws.proofs.Bits.{bit-set, bit-and, bit-pow}
use Rattle.laws.proofs.Choice.{cases, eqb-sym}
use Rattle.laws.proofs.Lowest.{word-all}
use Rattle.laws.proofs.Words.{word_lt, word-bit, word-past, word-empty, word-eq, bits-eq}
use Rattle.renumbering.specs.Numbering.{last, unnumbered, near, missing, odd, fit, blank}
use Rattle.renumbering.proofs.Renumber.{blank-at}
use Rattle.renumbering.proofs.Agree.{last-eq}
use Rattle.renumbering.proofs.Turns.{last-most}
use Rattle.numberrows.specs.Words.{misses_in, close_in, fit_in}

-- ---- the tests

module _ (rows : List ℕ) (n : ℕ) (few : n ≤ 32) (new : List ℕ) (word : ℕ) (is : word ≡ word_of (unnumbered new) n) where
  module _ (i : ℕ) where
    abbrev nears : ℕ
    nears = bit_and (get_or rows i 0) word

    near-in : (j : ℕ) → j < n → bit_at nears j ≡ near (bit_in rows) n new i j
    near-in j l =
        bit-and (get_or rows i 0) word j
        ∙ ap (λ t. bit_in rows i j && t) (ap (λ (x : ℕ). bit_at x j) is ∙ word-bit (unnumbered new) n j l)
        ∙ and_comm (bit_in rows i j) (unnumbered new j)

    near-past : (j : ℕ) → n ≤ j → bit_at nears j ≡ false
    near-past j l =
        bit-and (get_or rows i 0) word j
        ∙ ap (λ t. bit_in rows i j && t) (ap (λ (x : ℕ). bit_at x j) is ∙ word-past (unnumbered new) n j l)
        ∙ and-false (bit_in rows i j)

    misses-odd : (a : ℕ) → a < n → (bit_at nears a && misses_in nears (get_or rows a 0) a) ≡ odd (bit_in rows) n new i a
    unfolding misses_in odd missing
    misses-odd a l =
        ap₂ ◌&&◌ (near-in a l)
        (any-skip (λ b. bit_at nears b && not (eqb a b || bit_in rows a b)) n 32 few (λ b h m. ap (λ t. t && not (eqb a b || bit_in rows a b)) (near-past b h))
        ∙ any-eq (λ b. bit_at nears b && not (eqb a b || bit_in rows a b)) (missing (bit_in rows) n new i a) n
        (λ b m. ap (λ t. t && not (eqb a b || bit_in rows a b)) (near-in b m)))

    fit_same : i < n → fit_in rows word i ≡ fit (bit_in rows) n new i
    unfolding fit_in close_in fit
    fit_same l =
        ap₂ (λ s t. s && not t) (ap (λ (x : ℕ). bit_at x i) is ∙ word-bit (unnumbered new) n i l)
        (any-skip (λ a. bit_at nears a && misses_in nears (get_or rows a 0) a) n 32 few
        (λ a h m. ap (λ t. t && misses_in nears (get_or rows a 0) a) (near-past a h))
        ∙ any-eq (λ a. bit_at nears a && misses_in nears (get_or rows a 0) a) (odd (bit_in rows) n new i) n misses-odd)

  pub highest-same : last (fit_in rows word) n ≡ last (fit (bit_in rows) n new) n
  highest-same = last-eq (fit_in rows word) (fit (bit_in rows) n new) n fit_same

pub ruleset found_within = (last-most)

-- ---- those left

pub all_there : (n : ℕ) → 2 ^ n - 1 ≡ word_of (unnumbered (blank 32)) n
all_there n = sym (word-all n) ∙ word-eq (λ _. true) (unnumbered (blank 32)) n (λ k l. sym (eq-eqb (get_or (blank 32) k 0) 0 (blank-at 32 k)))

pub one_out : (n : ℕ) (new : List ℕ) (word i v r : ℕ) → n ≤ 32 → i < length new → 0 < v → word ≡ word_of (unnumbered new) n
    → r ≡ word_of (λ b. bit_at word b && not (bit_at (2 ^ i) b)) 32 → r ≤ word → r ≡ word_of (unnumbered (set new i v)) n
one_out n new word i v r few inside some is e most =
    bits-eq (unnumbered (set new i v)) r n (omega (arith, word_lt (unnumbered new) n)) (λ j l.
    ap (λ (x : ℕ). bit_at x j) e
    ∙ word-bit (λ b. bit_at word b && not (bit_at (2 ^ i) b)) 32 j (omega arith)
    ∙ ap₂ (λ s t. s && not t) (ap (λ (x : ℕ). bit_at x j) is ∙ word-bit (unnumbered new) n j l) (bit-pow i j)
    ∙ ⊎_elim (here j) (there j) (cases (eqb j i)))
  where
    here : (j : ℕ) → eqb j i ≡ true → (unnumbered new j && not (eqb j i)) ≡ unnumbered (set new i v) j
    here j h =
        let now : get_or (set new i v) j 0 ≡ v = ap (λ k. get_or (set new i v) k 0) (eqb-true j i h) ∙ get_or-set_same new i v 0 inside in
        ap (λ t. unnumbered new j && not t) h ∙ and-false (unnumbered new j) ∙ sym (ne_eqb (get_or (set new i v) j 0) 0 (λ z. omega arith))

    there : (j : ℕ) → eqb j i ≡ false → (unnumbered new j && not (eqb j i)) ≡ unnumbered (set new i v) j
    there j h =
        ap (λ t. unnumbered new j && not t) h
        ∙ and-true (unnumbered new j)
        ∙ sym (ap (λ (k : ℕ). eqb k 0) (get_or-set_other new i j v 0 (eqb-false j i h)))

-- ---- a word without another

pub misses-word : (near row a r : ℕ) → r ≡ word_of (λ b. bit_at near b && not (bit_at (bit_or row (2 ^ a)) b)) 32 → not (eqb r 0) ≡ misses_in near row a
unfolding misses_in set_bit
misses-word near row a r e =
    ap not (ap (λ (x : ℕ). eqb x 0) e ∙ word-empty (λ b. bit_at near b && not (bit_at (bit_or row (2 ^ a)) b)) 32)
    ∙ not-not (any (λ b. bit_at near b && not (bit_at (bit_or row (2 ^ a)) b)) 32)
    ∙ any-eq (λ b. bit_at near b && not (bit_at (bit_or row (2 ^ a)) b)) (λ b. bit_at near b && not (eqb a b || bit_at row b)) 32
    (λ b l. ap (λ t. bit_at near b && not t) (bit-set row a b ∙ ap (λ t. t || bit_at row b) (eqb-sym b a)))
