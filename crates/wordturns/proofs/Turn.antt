-- A cell's turn on words: what keeping leaves, and then adding, comes to the rule, bit by bit. And the free positions, one cell more. Assumes nothing.
use mathlib.Core.Path.{◌≡◌, refl, sym, ap, ap₂, ◌∙◌}
use mathlib.Core.Bool.{Bool, true, false, ◌&&◌, ◌||◌, not}
use mathlib.Core.List.{List}
use Prim.Native.Nat.{ℕ, ◌+◌, ◌-◌, ◌^◌, ◌<◌}
use native.Mathlib.Omega.{arith}
use lib.ListN.{get_or}
use Rattle.laws.specs.Bits.{bit_at, bit_in, word_of}
use Rattle.laws.specs.Choice.{pick}
use Rattle.laws.specs.Few.{first_few}
use Rattle.laws.specs.Sum.{bit, any, count}
use Rattle.laws.proofs.Any.{any-more}
use Rattle.laws.proofs.Bits.{none_in}
use Rattle.laws.proofs.Few.{few-eq}
use Rattle.laws.proofs.Sums.{sum-eq}
use Rattle.laws.proofs.Words.{word-bit, word-bits, word-eq}
use Rattle.mending.specs.Keep.{keep_at, add_at, stand_at}
use Rattle.mending.specs.Changes.{differ}
use Rattle.mending.proofs.Stand.{mend-short}

-- the bits of a word
bits : (p : ℕ → Bool) {x : ℕ} → x ≡ word_of p 64 → (k : ℕ) → k < 64 → bit_at x k ≡ p k
bits p is k h = ap (λ (y : ℕ). bit_at y k) is ∙ word-bit p 64 k h

-- ---- the free positions

module _ (vacant row : ℕ) (stands : List ℕ) where
  abbrev free_of : ℕ → ℕ → Bool
  free_of i k = bit_at vacant k && not (any (λ a. bit_at row a && bit_in stands a k) i)

  none-off : (t : Bool) → t ≡ (t && not false)
  none-off true = refl
  none-off false = refl

  pub all-free : vacant < 2 ^ 64 → vacant ≡ word_of (λ k. bit_at vacant k && not (any (λ a. bit_at row a && bit_in stands a k) 0)) 64
  unfolding any
  all-free h = word-bits vacant 64 h ∙ word-eq (bit_at vacant) (free_of 0) 64 (λ k l. none-off (bit_at vacant k))

  -- a word that counts, bit by bit
  counts-bit : (c : Bool) (x k : ℕ) → bit_at (pick c x 0) k ≡ (c && bit_at x k)
  counts-bit true x k = refl
  counts-bit false x k = none_in k

  one-off : (v s t : Bool) → ((v && not s) && not t) ≡ (v && not (s || t))
  one-off true true t = refl
  one-off true false t = refl
  one-off false s t = refl

  pub one_free : {free own : ℕ} {c : Bool} (i : ℕ) → free ≡ word_of (λ k. bit_at vacant k && not (any (λ a. bit_at row a && bit_in stands a k) i)) 64
      → c ≡ bit_at row i → own ≡ pick c (get_or stands i 0) 0
      → word_of (λ b. bit_at free b && not (bit_at own b)) 64 ≡ word_of (λ k. bit_at vacant k && not (any (λ a. bit_at row a && bit_in stands a k) (i + 1))) 64
  one_free {free} {own} {c} i is e f =
      word-eq (λ b. bit_at free b && not (bit_at own b)) (free_of (i + 1)) 64
      (λ k h.
      ap₂ (λ s t. s && not t) (bits (free_of i) is k h)
      (ap (λ (x : ℕ). bit_at x k) f ∙ counts-bit c (get_or stands i 0) k ∙ ap (λ b. b && bit_in stands i k) e)
      ∙ one-off (bit_at vacant k) (any (λ a. bit_at row a && bit_in stands a k) i) (bit_at row i && bit_in stands i k)
      ∙ ap (λ b. bit_at vacant k && not b) (sym (any-more (λ a. bit_at row a && bit_in stands a k) i)))

-- ---- keeping, then adding

module _ (free old load : ℕ) {both kept lacking rest added here : ℕ}
    (is-both : both ≡ word_of (λ b. bit_at free b && bit_at old b) 64) (is-kept : kept ≡ word_of (first_few (bit_at both) load) 64)
    (is-lacking : lacking ≡ load - count (bit_at kept) 64) (is-rest : rest ≡ word_of (λ b. bit_at free b && not (bit_at kept b)) 64)
    (is-added : added ≡ word_of (first_few (bit_at rest) lacking) 64) (is-here : here ≡ word_of (λ b. bit_at kept b || bit_at added b) 64) where
  abbrev keep : ℕ → Bool
  keep = keep_at (bit_at free) (bit_at old) load 64

  abbrev stand : ℕ → Bool
  stand = stand_at (bit_at free) (bit_at old) load 64

  keeps : (k : ℕ) → k < 64 → bit_at kept k ≡ keep k
  keeps k h =
      bits (first_few (bit_at both) load) is-kept k h
      ∙ few-eq (bit_at both) (λ j. bit_at free j && bit_at old j) load k (λ j l. bits (λ b. bit_at free b && bit_at old b) is-both j (omega arith))

  lack : lacking ≡ load - count keep 64
  lack = is-lacking ∙ ap (λ (c : ℕ). load - c) (sum-eq (λ k. bit (bit_at kept k)) (λ k. bit (keep k)) 64 (λ k h. ap bit (keeps k h)))

  rests : (k : ℕ) → k < 64 → bit_at rest k ≡ (bit_at free k && not (keep k))
  rests k h = bits (λ b. bit_at free b && not (bit_at kept b)) is-rest k h ∙ ap (λ t. bit_at free k && not t) (keeps k h)

  adds : (k : ℕ) → k < 64 → bit_at added k ≡ add_at (bit_at free) (bit_at old) load 64 k
  adds k h =
      bits (first_few (bit_at rest) lacking) is-added k h
      ∙ few-eq (bit_at rest) (λ j. bit_at free j && not (keep j)) lacking k (λ j l. rests j (omega arith))
      ∙ ap (λ (m : ℕ). first_few (λ j. bit_at free j && not (keep j)) m k) lack

  pub turn-here : here ≡ word_of (stand_at (bit_at free) (bit_at old) load 64) 64
  turn-here = is-here ∙ word-eq (λ b. bit_at kept b || bit_at added b) stand 64 (λ k h. ap₂ ◌||◌ (keeps k h) (adds k h))

  pub turn-short : lacking - count (bit_at rest) 64 ≡ load - count (stand_at (bit_at free) (bit_at old) load 64) 64
  turn-short =
      omega (
        arith,
        lack,
        sum-eq (λ k. bit (bit_at rest k)) (λ k. bit (bit_at free k && not (keep k))) 64 (λ k h. ap bit (rests k h)),
        mend-short (bit_at free) (bit_at old) load 64,
      )

  pub turn-changes : count (λ b. pick (bit_at old b) (not (bit_at here b)) (bit_at here b)) 64
      ≡ count (λ k. differ (stand_at (bit_at free) (bit_at old) load 64 k) (bit_at old k)) 64
  turn-changes =
      sum-eq (λ k. bit (differ (bit_at here k) (bit_at old k))) (λ k. bit (differ (stand k) (bit_at old k))) 64
      (λ k h. ap (λ t. bit (differ t (bit_at old k))) (bits stand turn-here k h))
