-- The first few of a word's positions, by clearing the lowest again and again. Assumes nothing.
use mathlib.Core.Path.{◌≡◌, refl, sym, ap, ◌∙◌}
use mathlib.Core.Bool.{Bool, true, false, ◌&&◌, not, and-true, true≢false}
use mathlib.Core.Logic.{⊎_elim}
use Prim.Native.Nat.{ℕ, zero, suc, ◌+◌, ◌-◌, ◌^◌, ◌≤◌, ◌<◌}
use native.Mathlib.Omega.{arith}
use lib.Bits.{bit_and}
use lib.Count.{count_trailing_zeros}
use lib.Dec.{ltb, leb}
use borrow.Author.Tests.{lt-ltb, ltb-true, ltb-false, lt-leb, le-leb, leb-true, leb-false}
use Rattle.laws.specs.Bits.{bit_at, word_of}
use Rattle.laws.specs.Few.{first_few}
use Rattle.laws.specs.Sum.{bit, sum, count}
use Rattle.laws.proofs.Bits.{none_in}
use Rattle.laws.proofs.Choice.{cases, both}
use Rattle.laws.proofs.LowestOff.{Lowest, zeros-lowest, word-off}
use Rattle.laws.proofs.Sums.{count-below}
use Rattle.laws.proofs.Words.{word-bit, word-bits, word-eq}

-- p's numbers that have at least i of them below: those that are left when the first i are cleared
abbrev pub later : (ℕ → Bool) → ℕ → ℕ → Bool
later p i k = p k && leb i (count p k)

-- where more than i are counted, one of them has i or more below it
reached : (p : ℕ → Bool) (i n : ℕ) → i < count p n → (s : ℕ) × (s < n) × (later p i s ≡ true)
unfolding sum
reached p i zero h = absurd (omega arith)
reached p i (suc n) h =
    ⊎_elim
    (λ e. (n, omega arith, rw (e, le-leb i (count p n) (omega (arith, ap bit e)))))
    (λ e. let r = reached p i n (omega (arith, ap bit e)) in (r.0, omega (arith, r.1), r.2))
    (cases (p n))

module _ (p : ℕ → Bool) (n i : ℕ) where
  -- what is left once the lowest is cleared too
  cleared : (t : ℕ) → Lowest (later p i) n t → (k : ℕ) → k < n → (leb (t + 1) k && later p i k) ≡ later p (i + 1) k
  cleared t low k h = ⊎_elim (λ l. up l) (λ l. down l) (cases (leb (t + 1) k))
    where
      up : leb (t + 1) k ≡ true → (leb (t + 1) k && later p i k) ≡ later p (i + 1) k
      up l = rw l (higher (p k) refl)
        where
          more : count p t < count p k
          more = count-below p t k (omega (arith, leb-true (t + 1) k l)) (both (p t) (leb i (count p t)) low.passes).0

          least : i ≤ count p t
          least = leb-true i (count p t) (both (p t) (leb i (count p t)) low.passes).1

          higher : (b : Bool) → p k ≡ b → (b && leb i (count p k)) ≡ (b && leb (i + 1) (count p k))
          higher true e = le-leb i (count p k) (omega (arith, more, least)) ∙ sym (le-leb (i + 1) (count p k) (omega (arith, more, least)))
          higher false e = refl

      down : leb (t + 1) k ≡ false → (leb (t + 1) k && later p i k) ≡ later p (i + 1) k
      down l = rw l (sym (none (later p (i + 1) k) refl))
        where
          none : (b : Bool) → later p (i + 1) k ≡ b → b ≡ false
          none false e = refl
          none true e =
              let r = reached p i k (omega (arith, leb-true (i + 1) (count p k) (both (p k) (leb (i + 1) (count p k)) e).1)) in
              absurd (true≢false (sym r.2 ∙ low.below r.0 (omega (arith, r.1, leb-false (t + 1) k l))))

  -- one is left
  pub some-later : i < count p n → word_of (later p i) n ≡ 0 → ⊥
  some-later h e =
      let r = reached p i n h in
      true≢false (sym r.2 ∙ sym (word-bit (later p i) n r.0 r.1) ∙ ap (λ (x : ℕ). bit_at x r.0) e ∙ none_in r.0)

  -- the word of them
  pub clear-lowest : i < count p n → bit_and (word_of (later p i) n) (word_of (later p i) n - 1) ≡ word_of (later p (i + 1)) n
  clear-lowest h =
      let low = zeros-lowest (later p i) n n (omega arith) (some-later h) in
      let t = count_trailing_zeros n (word_of (later p i) n) in
      word-off (later p i) n t low ∙ word-eq (λ k. leb (t + 1) k && later p i k) (later p (i + 1)) n (cleared t low)

-- nothing is cleared yet
pub later-all : (x n : ℕ) → x < 2 ^ n → x ≡ word_of (later (bit_at x) 0) n
later-all x n h =
    word-bits x n h ∙ word-eq (bit_at x) (later (bit_at x) 0) n (λ k l.
    sym (ap (λ t. bit_at x k && t) (le-leb 0 (count (bit_at x) k) (omega arith)) ∙ and-true (bit_at x k)))

-- those that are not left are the first few
pub few-rest : (x y l n : ℕ) → y ≡ word_of (later (bit_at x) l) n → word_of (λ b. bit_at x b && not (bit_at y b)) n ≡ word_of (first_few (bit_at x) l) n
few-rest x y l n e =
    word-eq (λ b. bit_at x b && not (bit_at y b)) (first_few (bit_at x) l) n
    (λ k h. ap (λ t. bit_at x k && not t) (ap (λ (z : ℕ). bit_at z k) e ∙ word-bit (later (bit_at x) l) n k h) ∙ turned (bit_at x k) (count (bit_at x) k))
  where
    turned : (b : Bool) (m : ℕ) → (b && not (b && leb l m)) ≡ (b && ltb m l)
    turned false m = refl
    turned true m =
        ⊎_elim (λ g. rw (lt-leb l m (ltb-true m l g), g)) (λ g. rw (le-leb l m (ltb-false m l g), g)) (cases (ltb m l))

-- all are among the first few, where there are no more
pub few-all : (x l n : ℕ) → x < 2 ^ n → count (bit_at x) n ≤ l → x ≡ word_of (first_few (bit_at x) l) n
few-all x l n fits h = word-bits x n fits ∙ word-eq (bit_at x) (first_few (bit_at x) l) n (λ k g. same k g (bit_at x k) refl)
  where
    same : (k : ℕ) → k < n → (b : Bool) → bit_at x k ≡ b → b ≡ (b && ltb (count (bit_at x) k) l)
    same k g false e = refl
    same k g true e = sym (lt-ltb (count (bit_at x) k) l (omega (arith, count-below (bit_at x) k n g e)))

-- what the loop that takes positions away asks
pub ruleset few_laws = (later-all, some-later, clear-lowest, few-all)
