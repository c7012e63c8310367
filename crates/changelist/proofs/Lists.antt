-- The changes are stored and listed word by word: a word more of a cell, and a cell more. Assumes nothing.
use mathlib.Core.Path.{◌≡◌, refl, sym, ap, ap₂, ◌∙◌}
use mathlib.Core.Bool.{Bool, true, false}
use mathlib.Core.List.{List, [], ◌++◌, append-nil, append_assoc}
use mathlib.Core.Logic.{⊎_elim}
use Prim.Native.Nat.{ℕ, zero, suc, ◌+◌, ◌*◌, ◌≤◌, ◌<◌}
use native.Mathlib.Nat.{add-zero, add-suc, zero-add}
use native.Mathlib.Numerals.{add-one}
use native.Mathlib.Omega.{arith}
use borrow.Author.Tests.{ltb-true, ltb-false}
use lib.Dec.{ltb}
use lib.ListN.{length, get_or, length-append}
use lib.Seq.{sets, length-sets}
use Rattle.laws.specs.Bits.{bit_at}
use Rattle.laws.specs.Choice.{pick}
use Rattle.laws.specs.Sum.{bit, sum, count}
use Rattle.laws.proofs.Choice.{cases}
use Rattle.laws.proofs.Stores.{sets-append}
use Rattle.laws.proofs.Sums.{sum_more, sum_below, sum-up}
use Rattle.positions.proofs.Counts.{blocked-at}
use Rattle.theory.specs.Net.{Reserved}
use Rattle.mending.specs.Changes.{differ, change_entry, change, changed, cell_changes, changes, follow}
use Rattle.mending.proofs.Changes.{change-length, cell-length, changes-length}
use Rattle.mending.proofs.Follow.{follow-append}
use Rattle.sets.specs.Sets.{in_set}
use Rattle.standing.specs.Sets.{stands_in}
use Rattle.changelist.specs.Sets.{word_changes, word_count, cell_count, all_count, WordInside, RowWithin}

-- ---- the changes of a word

module _ (is was : ℕ → Bool) (i from : ℕ) where
  pub word-length : (b : ℕ) → length (word_changes is was i from b) ≡ 4 * word_count is was b
  unfolding word_changes sum
  word-length zero = refl
  word-length (suc b) =
      omega (
        arith,
        length-append (word_changes is was i from b) (change (is b) (was b) i (from + b)),
        change-length (λ _ _. is b) (λ _ _. was b) i (from + b),
        word-length b,
      )

  -- one position more
  pub word_more : (b : ℕ) → word_changes is was i from (b + 1) ≡ word_changes is was i from b ++ change (is b) (was b) i (from + b)
  unfolding word_changes
  word_more b = rw add-one

  -- positions without a change
  pub word-skip : (b d : ℕ) → ((q : ℕ) → b ≤ q → q < b + d → differ (is q) (was q) ≡ false) → word_changes is was i from (b + d) ≡ word_changes is was i from b
  unfolding word_changes
  word-skip b zero h = ap (word_changes is was i from) (add-zero b)
  word-skip b (suc d) h =
      ap (word_changes is was i from) (add-suc b d)
      ∙ ap₂ (λ (x : List ℕ) t. x ++ pick t (change_entry (is (b + d)) (was (b + d)) i (from + (b + d))) [])
      (word-skip b d (λ q l m. h q l (omega arith))) (h (b + d) (omega arith) (omega arith))
      ∙ append-nil (word_changes is was i from b)

  pub word_none : (d : ℕ) → ((q : ℕ) → q < d → differ (is q) (was q) ≡ false) → word_changes is was i from d ≡ []
  unfolding word_changes
  word_none d h = ap (word_changes is was i from) (sym (zero-add d)) ∙ word-skip 0 d (λ q l m. h q (omega arith))

-- only what stands and stood counts
words-cong : (is is' was was' : ℕ → Bool) (i from b : ℕ) → ((q : ℕ) → q < b → is q ≡ is' q) → ((q : ℕ) → q < b → was q ≡ was' q)
    → word_changes is was i from b ≡ word_changes is' was' i from b
unfolding word_changes
words-cong is is' was was' i from zero h g = refl
words-cong is is' was was' i from (suc b) h g =
    let a = words-cong is is' was was' i from b (λ q l. h q (omega arith)) (λ q l. g q (omega arith)) in
    let s = h b (omega arith) in
    let t = g b (omega arith) in
    λ x. a x ++ change (s x) (t x) i (from + b)

-- ---- a cell's

module _ (is was : Reserved) (i : ℕ) where
  -- those of its first positions, then of more
  pub cell-word : (k b : ℕ) → cell_changes is was i (k + b) ≡ cell_changes is was i k ++ word_changes (λ q. is i (k + q)) (λ q. was i (k + q)) i k b
  unfolding cell_changes word_changes
  cell-word k zero = ap (cell_changes is was i) (add-zero k) ∙ sym (append-nil (cell_changes is was i k))
  cell-word k (suc b) =
      ap (cell_changes is was i) (add-suc k b)
      ∙ ap (λ (x : List ℕ). x ++ change (is i (k + b)) (was i (k + b)) i (k + b)) (cell-word k b)
      ∙ append_assoc (cell_changes is was i k) (word_changes (λ q. is i (k + q)) (λ q. was i (k + q)) i k b) (change (is i (k + b)) (was i (k + b)) i (k + b))

  -- those of n positions are all, where nothing changes past them
  pub cell-within : (n d : ℕ) → ((k : ℕ) → n ≤ k → k < n + d → changed is was i k ≡ false) → cell_changes is was i (n + d) ≡ cell_changes is was i n
  cell-within n d h =
      cell-word n d
      ∙ ap (λ (x : List ℕ). cell_changes is was i n ++ x)
      (word_none (λ q. is i (n + q)) (λ q. was i (n + q)) i n d (λ q l. h (n + q) (omega arith) (omega arith)))
      ∙ append-nil (cell_changes is was i n)

-- and so of every cell's
pub changes-within : (is was : Reserved) (n d c : ℕ) → ((i k : ℕ) → i < c → n ≤ k → k < n + d → changed is was i k ≡ false)
    → changes is was (n + d) c ≡ changes is was n c
unfolding changes
changes-within is was n d zero h = refl
changes-within is was n d (suc c) h =
    ap₂ ◌++◌ (changes-within is was n d c (λ i k l. h i k (omega arith))) (cell-within is was c n d (λ k. h c k (omega arith)))

-- ---- a word more of cell i: u is the table and l the list before the cell, t and x once the words below j are done

module _ (w i j : ℕ) (stands old : List ℕ) where
  abbrev is : Reserved
  is = stands_in w stands

  abbrev was : Reserved
  was = stands_in w old

  -- the words j of its sets
  abbrev now' : ℕ → Bool
  now' = bit_at (get_or stands (i * w + j) 0)

  abbrev then' : ℕ → Bool
  then' = bit_at (get_or old (i * w + j) 0)

  has : (set : List ℕ) (q : ℕ) → q < 64 → bit_at (get_or set (i * w + j) 0) q ≡ stands_in w set i (64 * j + q)
  has set q h =
      let e : 64 * (i * w + j) + q ≡ 64 * (i * w) + (64 * j + q) = omega arith in
      sym (blocked-at set (i * w + j) q h) ∙ ap (in_set set) e

  of_word : cell_changes is was i (64 * (j + 1)) ≡ cell_changes is was i (64 * j) ++ word_changes now' then' i (64 * j) 64
  of_word =
      let e : 64 * (j + 1) ≡ 64 * j + 64 = omega arith in
      ap (cell_changes is was i) e
      ∙ cell-word is was i (64 * j) 64
      ∙ ap (λ (z : List ℕ). cell_changes is was i (64 * j) ++ z)
      (words-cong (λ q. is i (64 * j + q)) now' (λ q. was i (64 * j + q)) then' i (64 * j) 64 (λ q h. sym (has stands q h)) (λ q h. sym (has old q h)))

  more : count (changed is was i) (64 * (j + 1)) ≡ count (changed is was i) (64 * j) + word_count now' then' 64
  more =
      omega (
        arith,
        cell-length is was i (64 * j),
        cell-length is was i (64 * (j + 1)),
        word-length now' then' i (64 * j) 64,
        ap length of_word,
        length-append (cell_changes is was i (64 * j)) (word_changes now' then' i (64 * j) 64),
      )

  -- a change is one of the n positions
  pub change-inside : (n : ℕ) → j < w → RowWithin w i n stands old → WordInside (bit_at (get_or stands (i * w + j) 0)) (bit_at (get_or old (i * w + j) 0))
      (64 * j) n
  change-inside n l none b h e =
      ⊎_elim (λ (t : ltb (64 * j + b) n ≡ true). ltb-true (64 * j + b) n t)
      (λ (t : ltb (64 * j + b) n ≡ false).
      let same : differ (now' b) (then' b) ≡ changed is was i (64 * j + b) = ap₂ differ (has stands b h) (has old b h) in
      let z : true ≡ false = sym e ∙ same ∙ none (64 * j + b) (ltb-false (64 * j + b) n t) (omega arith) in
      let y : ◌≡◌ {A = ℕ} 1 0 = ap bit z in
      absurd (omega arith))
      (cases (ltb (64 * j + b) n))

  pub table-word : (n : ℕ) (u t : List ℕ) → t ≡ follow n (cell_changes is was i (64 * j)) u
      → {r : List ℕ} → r ≡ follow n (word_changes now' then' i (64 * j) 64) t → r ≡ follow n (cell_changes is was i (64 * (j + 1))) u
  table-word n u t so_far e =
      e
      ∙ ap (follow n (word_changes now' then' i (64 * j) 64)) so_far
      ∙ sym (follow-append n (count (changed is was i) (64 * j)) (cell_changes is was i (64 * j)) (word_changes now' then' i (64 * j) 64) u
      (cell-length is was i (64 * j)))
      ∙ ap (λ (z : List ℕ). follow n z u) (sym of_word)

  module _ (at next : ℕ) (l x : List ℕ) (so_far : x ≡ sets l at (cell_changes is was i (64 * j)))
      (there : next ≡ at + 4 * count (changed is was i) (64 * j)) where
    pub list-word : {r : List ℕ} → r ≡ sets x next (word_changes now' then' i (64 * j) 64) → r ≡ sets l at (cell_changes is was i (64 * (j + 1)))
    list-word e =
        let p : next ≡ at + length (cell_changes is was i (64 * j)) = omega (arith, cell-length is was i (64 * j)) in
        e
        ∙ ap₂ (λ (z : List ℕ) (q : ℕ). sets z q (word_changes now' then' i (64 * j) 64)) so_far p
        ∙ sym (sets-append l at (cell_changes is was i (64 * j)) (word_changes now' then' i (64 * j) 64))
        ∙ ap (sets l at) (sym of_word)

    pub next_word : {r : ℕ} → r ≡ next + 4 * word_count now' then' 64 → r ≡ at + 4 * count (changed is was i) (64 * (j + 1))
    next_word e = omega (arith, e, there, more)

    pub room_word : j < w → at + 4 * cell_count w i stands old ≤ length l → next + 4 * word_count now' then' 64 ≤ length x
    room_word h fits =
        omega (
          arith,
          there,
          more,
          sum-up (λ k. bit (changed is was i k)) (64 * (j + 1)) (64 * w) (omega arith),
          ap length so_far,
          length-sets l at (cell_changes is was i (64 * j)),
        )

-- ---- a cell more: u is the table and l the list at first, t and x once the cells below i are done

module _ (w i : ℕ) (stands old : List ℕ) where
  abbrev so : Reserved
  so = stands_in w stands

  abbrev stood : Reserved
  stood = stands_in w old

  pub table-cell : (n : ℕ) (u t : List ℕ) → t ≡ follow n (changes so stood (64 * w) i) u → {r : List ℕ} → r ≡ follow n (cell_changes so stood i (64 * w)) t
      → r ≡ follow n (changes so stood (64 * w) (i + 1)) u
  unfolding changes
  table-cell n u t so_far e =
      e
      ∙ ap (follow n (cell_changes so stood i (64 * w))) so_far
      ∙ sym (follow-append n (all_count w i stands old) (changes so stood (64 * w) i) (cell_changes so stood i (64 * w)) u (changes-length so stood (64 * w) i))
      ∙ ap (λ q. follow n (changes so stood (64 * w) q) u) (sym (add-one i))

  module _ (at : ℕ) (l x : List ℕ) (so_far : x ≡ sets l 0 (changes so stood (64 * w) i)) (there : at ≡ 4 * all_count w i stands old) where
    pub list-cell : {r : List ℕ} → r ≡ sets x at (cell_changes so stood i (64 * w)) → r ≡ sets l 0 (changes so stood (64 * w) (i + 1))
    unfolding changes
    list-cell e =
        let p : at ≡ 0 + length (changes so stood (64 * w) i) = omega (arith, changes-length so stood (64 * w) i) in
        e
        ∙ ap₂ (λ (z : List ℕ) (q : ℕ). sets z q (cell_changes so stood i (64 * w))) so_far p
        ∙ sym (sets-append l 0 (changes so stood (64 * w) i) (cell_changes so stood i (64 * w)))
        ∙ ap (λ q. sets l 0 (changes so stood (64 * w) q)) (sym (add-one i))

    pub next-cell : {r : ℕ} → r ≡ at + 4 * cell_count w i stands old → r ≡ 4 * all_count w (i + 1) stands old
    next-cell e = omega (arith, there, e, sum_more (λ j. cell_count w j stands old) i)

    pub room-cell : (m : ℕ) → i < m → 4 * all_count w m stands old ≤ length l → at + 4 * cell_count w i stands old ≤ length x
    room-cell m h fits =
        omega (arith, there, sum_below (λ j. cell_count w j stands old) i m h, ap length so_far, length-sets l 0 (changes so stood (64 * w) i))
