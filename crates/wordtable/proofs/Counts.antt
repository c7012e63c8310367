-- The cells of a word, from the lowest up: when those below k are looked at, the counts have them, and what they meet of their clash rows is not 0 exactly
-- where one of them clashes with a cell of the word above it. Assumes nothing.
use mathlib.Core.Path.{◌≡◌, refl, sym, ap, ap₂, ◌∙◌}
use mathlib.Core.Bool.{true, false, ◌&&◌, ◌||◌, not}
use mathlib.Core.List.{List}
use mathlib.Core.Logic.{⊎_elim}
use Prim.Native.Nat.{ℕ, ◌+◌, ◌-◌, ◌^◌, ◌≤◌, ◌<◌, zero-le}
use native.Mathlib.Nat.{add-zero}
use native.Mathlib.Omega.{arith}
use lib.Bits.{bit_and, bit_or, and_comm, and_mask}
use lib.Count.{count_trailing_zeros}
use lib.Dec.{ltb, eqb}
use lib.ListN.{length, get_or, set, length-set}
use lib.Seq.{get_or-set_same, get_or-set_other}
use borrow.Author.Tests.{lt-ltb, le-ltb, le-leb, ltb-false}
use Rattle.laws.specs.Choice.{pick}
use Rattle.laws.specs.Bits.{bit_at, word_of}
use Rattle.laws.specs.Sum.{any}
use Rattle.laws.proofs.Any.{any-first, any-skip, any-more}
use Rattle.laws.proofs.Bits.{either-some}
use Rattle.laws.proofs.Choice.{cases, order}
use Rattle.laws.proofs.Upward.{from_on, walk-done, walk_inside, walk_from, walk_here, walk-passed, walk-off, walk-less}
use Rattle.laws.proofs.Words.{word_mod, word-eq}
use Rattle.words.specs.Clashes.{second_in, clashes_in, first_in}
use Rattle.words.proofs.Words.{from-shares}
use Rattle.wordtable.specs.Tally.{clashing_word, Added}

module _ (n word times : ℕ) (rows before : List ℕ) where
  -- the cells of the word below k are looked at
  pub record Tallied (k : ℕ) (after : List ℕ) (met left : ℕ) : Type 0 where
    pub most : k ≤ n
    pub rest : left ≡ word_of (from_on (bit_at word) k) n
    pub meets : not (eqb met 0) ≡ any (clashes_in word rows n) k
    pub added : (j : ℕ) → j < n → get_or after j 0 ≡ get_or before j 0 + pick (ltb j k && bit_at word j) times 0
    pub long : length after ≡ length before

  -- none yet
  pub none-tallied : (left : ℕ) → left ≡ bit_and word (2 ^ n - 1) → Tallied 0 before 0 left
  unfolding any
  none-tallied left e =
      record {
        most = zero-le;
        rest = e ∙ and_mask word n ∙ word_mod word n ∙ word-eq (bit_at word) (from_on (bit_at word) 0) n
            (λ j h. sym (ap (λ b. b && bit_at word j) (le-leb 0 j zero-le)));
        meets = refl;
        added = λ j h. rw (le-ltb j 0 zero-le) (omega arith);
        long = refl;
      }

  module _ (k : ℕ) (after : List ℕ) (met left : ℕ) (t : Tallied k after met left) where
    -- nothing is left
    module _ (done : left ≡ 0) where
      silent : (j : ℕ) → k ≤ j → j < n → bit_at word j ≡ false
      silent = walk-done (bit_at word) n k left t.rest done

      pub all-added : Added n word times before after
      all-added = (
        t.long,
        λ j h.
            t.added j h
            ∙ ap (λ b. get_or before j 0 + pick b times 0)
            (⊎_elim (λ e. ap (λ b. b && bit_at word j) e)
            (λ e. ap (λ b. b && bit_at word j) e ∙ sym (silent j (ltb-false j k e) h)) (cases (ltb j k))),
      )

      pub all_meet : not (eqb met 0) ≡ clashing_word rows n word
      unfolding first_in clashes_in
      all_meet =
          t.meets
          ∙ sym (any-skip (clashes_in word rows n) k n t.most (λ j l h. ap (λ b. b && ltb (second_in word rows n j) n) (silent j l h)))
          ∙ any-first (clashes_in word rows n) (clashes_in word rows n) 0 n zero-le (λ c h e. (zero-le, e)) (λ c l h e. e)

    -- the lowest cell that is left
    module _ (some : left ≡ 0 → ⊥) (small : n ≤ 32) where
      abbrev at : ℕ
      at = count_trailing_zeros 32 left

      pub at-inside : at < n
      at-inside = walk_inside (bit_at word) n k left t.rest some small

      -- a turn takes something off
      pub onward-less : bit_and left (left - 1) < left
      onward-less = walk-less (bit_at word) n k left t.rest some small

      there : (k ≤ at) × (bit_at word at ≡ true)
      there = (walk_from (bit_at word) n k left t.rest some small, walk_here (bit_at word) n k left t.rest some small)

      -- the cells passed over are not in the word
      passed : (j : ℕ) → k ≤ j → j < at → bit_at word j ≡ false
      passed = walk-passed (bit_at word) n k left t.rest some small

      pub not_yet : get_or after at 0 ≡ get_or before at 0
      not_yet = t.added at at-inside ∙ ap (λ b. get_or before at 0 + pick (b && bit_at word at) times 0) (le-ltb at k there.0) ∙ add-zero (get_or before at 0)

      onward : bit_and left (left - 1) ≡ word_of (from_on (bit_at word) (at + 1)) n
      onward = walk-off (bit_at word) n k left t.rest some small

      -- and it is looked at
      pub one-tallied : (v : ℕ) → v ≡ get_or after at 0 + times → n ≤ length before
          → Tallied (at + 1) (set after at v) (bit_or met (bit_and (get_or rows at 0) (bit_and left (left - 1)))) (bit_and left (left - 1))
      unfolding clashes_in second_in
      one-tallied v e long =
          record {
            most = omega (arith, at-inside);
            rest = onward;
            meets =
                either-some met (bit_and (get_or rows at 0) (bit_and left (left - 1)))
                ∙ ap₂ (λ x y. x || y)
                (t.meets ∙ sym (any-skip (clashes_in word rows n) k at there.0 (λ j l h. ap (λ b. b && ltb (second_in word rows n j) n) (passed j l h))))
                (ap (λ (x : ℕ). not (eqb x 0)) (and_comm (get_or rows at 0) (bit_and left (left - 1)) ∙ ap (λ (x : ℕ). bit_and x (get_or rows at 0)) onward)
                ∙ from-shares (bit_at word) n (get_or rows at 0) at at-inside
                ∙ sym (ap (λ b. b && ltb (second_in word rows n at) n) there.1))
                ∙ sym (any-more (clashes_in word rows n) at);
            added = λ j h. ⊎_elim (λ l. lower j h l) (⊎_elim (λ q. here j h q) (λ g. higher j h g)) (order j at);
            long = simp length-set t.long;
          }
        where
          other : (j : ℕ) → j < n → (j ≡ at → ⊥) → (ltb j k && bit_at word j) ≡ (ltb j (at + 1) && bit_at word j)
              → get_or (set after at v) j 0 ≡ get_or before j 0 + pick (ltb j (at + 1) && bit_at word j) times 0
          other j h apart same = get_or-set_other after at j v 0 apart ∙ t.added j h ∙ ap (λ b. get_or before j 0 + pick b times 0) same

          lower : (j : ℕ) → j < n → j < at → get_or (set after at v) j 0 ≡ get_or before j 0 + pick (ltb j (at + 1) && bit_at word j) times 0
          lower j h l =
              other j h (λ e. omega arith)
              (⊎_elim
              (λ e. ap (λ b. b && bit_at word j) (e ∙ sym (lt-ltb j (at + 1) (omega arith))))
              (λ e. ap (λ b. b && bit_at word j) e ∙ sym (ap (λ b. b && bit_at word j) (lt-ltb j (at + 1) (omega arith)) ∙ passed j (ltb-false j k e) l))
              (cases (ltb j k)))

          here : (j : ℕ) → j < n → j ≡ at → get_or (set after at v) j 0 ≡ get_or before j 0 + pick (ltb j (at + 1) && bit_at word j) times 0
          here j h q =
              ap (λ (m : ℕ). get_or (set after at v) m 0) q
              ∙ get_or-set_same after at v 0 (omega (arith, at-inside, t.long))
              ∙ e
              ∙ ap (λ (m : ℕ). m + times) not_yet
              ∙ ap₂ (λ (m : ℕ) b. get_or before m 0 + pick b times 0) (sym q) (sym (ap₂ ◌&&◌ (lt-ltb j (at + 1) (omega arith)) (ap (bit_at word) q ∙ there.1)))

          higher : (j : ℕ) → j < n → at < j → get_or (set after at v) j 0 ≡ get_or before j 0 + pick (ltb j (at + 1) && bit_at word j) times 0
          higher j h g = other j h (λ e. omega arith) (ap (λ b. b && bit_at word j)
              (le-ltb j k (omega (arith, there.0)) ∙ sym (le-ltb j (at + 1) (omega arith))))
