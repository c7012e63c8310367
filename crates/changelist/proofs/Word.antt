-- The changes of a word, by the lowest bit that is left of those in which two words differ: the positions below it are as they were. Assumes nothing.
use mathlib.Core.Path.{◌≡◌, refl, sym, ap, ap₂, ◌∙◌, subst}
use mathlib.Core.Bool.{Bool, true, false, ◌&&◌, not, false≢true}
use mathlib.Core.List.{List, [], ◌++◌}
use Prim.Native.Nat.{ℕ, ◌+◌, ◌-◌, ◌*◌, ◌^◌, ◌≤◌, ◌<◌}
use native.Mathlib.Omega.{arith}
use borrow.Author.Tests.{le-leb, leb-true}
use lib.Bits.{bit_and, bit_xor, xor_lt}
use lib.Count.{count_trailing_zeros}
use lib.Dec.{leb}
use lib.ListN.{length, length-append}
use lib.Seq.{sets, length-sets}
use Rattle.laws.specs.Bits.{bit_at, word_of}
use Rattle.laws.specs.Choice.{pick}
use Rattle.laws.specs.Sum.{bit, sum}
use Rattle.laws.proofs.Bits.{none_in}
use Rattle.laws.proofs.Choice.{both}
use Rattle.laws.proofs.LowestOff.{Lowest, zeros-lowest, word-off}
use Rattle.laws.proofs.Stores.{sets-append}
use Rattle.laws.proofs.Sums.{sum-up}
use Rattle.laws.proofs.Words.{word-bit, word-bits, word-eq}
use Rattle.mending.specs.Changes.{differ, change_entry, follow}
use Rattle.mending.proofs.Follow.{follow-append}
use Rattle.blockwords.proofs.Trades.{bit-unlike}
use Rattle.changelist.specs.Sets.{word_changes, word_count}
use Rattle.changelist.proofs.Lists.{word-length, word_more, word-skip}

-- where two differ, the one is what the other is not
other : (a b : Bool) → differ a b ≡ true → not a ≡ b
other true true e = absurd (false≢true e)
other true false e = refl
other false true e = refl
other false false e = absurd (false≢true e)

inner : (s t u : Bool) → (s ≡ true → t ≡ true) → (s && (t && u)) ≡ (s && u)
inner true t u h = ap (λ z. z && u) (h refl)
inner false t u h = refl

-- the bits of two words that differ, from position m on
abbrev from_on-law : ℕ → ℕ → ℕ → ℕ → Bool
from_on-law is was m b = leb m b && bit_at (bit_xor is was) b

-- the first positions of the word are done: u is the table and l the list at first, t and x now
pub record Worded (is was n i from at : ℕ) (u l t x : List ℕ) (rest next : ℕ) : Type 0 where
  pub done : ℕ
  pub most : done ≤ 64
  pub left : rest ≡ word_of (λ b. leb done b && bit_at (bit_xor is was) b) 64
  pub table : t ≡ follow n (word_changes (bit_at is) (bit_at was) i from done) u
  pub list : x ≡ sets l at (word_changes (bit_at is) (bit_at was) i from done)
  pub place : next ≡ at + 4 * word_count (bit_at is) (bit_at was) done

pub none-worded : (is was n i from at : ℕ) (u l : List ℕ) → is < 2 ^ 64 → was < 2 ^ 64 → Worded is was n i from at u l u l (bit_xor is was) at
unfolding word_changes follow sum
none-worded is was n i from at u l h g = record {
  done = 0;
  most = omega arith;
  left =
      word-bits (bit_xor is was) 64 (xor_lt 64 is was h g)
      ∙ word-eq (bit_at (bit_xor is was)) (from_on-law is was 0) 64 (λ b _. sym (ap (λ t. t && bit_at (bit_xor is was) b) (le-leb 0 b (omega arith))));
  table = refl;
  list = refl;
  place = omega arith;
}

module _ (is was n i from at : ℕ) (u l t x : List ℕ) (rest next : ℕ) (st : Worded is was n i from at u l t x rest next) where
  abbrev so : ℕ → Bool
  so = bit_at is

  abbrev stood : ℕ → Bool
  stood = bit_at was

  abbrev m : ℕ
  m = st.done

  -- up to position b nothing more changes
  same-to : (b : ℕ) → m ≤ b → ((q : ℕ) → m ≤ q → q < b → bit_at (bit_xor is was) q ≡ false)
      → word_changes so stood i from b ≡ word_changes so stood i from m
  same-to b h none =
      let e : m + (b - m) ≡ b = omega arith in
      ap (word_changes so stood i from) (sym e)
      ∙ word-skip so stood i from m (b - m) (λ q g k. sym (bit-unlike is was q) ∙ none q g (omega arith))

  -- ---- a bit is left

  module _ (some : rest ≡ 0 → ⊥) where
    abbrev b : ℕ
    b = count_trailing_zeros 64 rest

    low : Lowest (from_on-law is was m) 64 b
    low =
        subst (λ (r : ℕ). Lowest (from_on-law is was m) 64 (count_trailing_zeros 64 r)) (sym st.left)
        (zeros-lowest (from_on-law is was m) 64 64 (omega arith) (λ e. some (st.left ∙ e)))

    pub bit-inside : count_trailing_zeros 64 rest < 64
    bit-inside = low.inside

    past : m ≤ b
    past = leb-true m b (both (leb m b) (bit_at (bit_xor is was) b) low.passes).0

    pub bit-differs : differ (bit_at is (count_trailing_zeros 64 rest)) (bit_at was (count_trailing_zeros 64 rest)) ≡ true
    bit-differs = sym (bit-unlike is was b) ∙ (both (leb m b) (bit_at (bit_xor is was) b) low.passes).1

    quiet : (q : ℕ) → m ≤ q → q < b → bit_at (bit_xor is was) q ≡ false
    quiet q h g = sym (ap (λ s. s && bit_at (bit_xor is was) q) (le-leb m q h)) ∙ low.below q g

    entry : word_changes so stood i from (b + 1) ≡ word_changes so stood i from m ++ change_entry (so b) (stood b) i (from + b)
    entry =
        word_more so stood i from b
        ∙ ap₂ (λ (z : List ℕ) s. z ++ pick s (change_entry (so b) (stood b) i (from + b)) []) (same-to b past quiet) bit-differs

    place' : next + 4 ≡ at + 4 * word_count so stood (b + 1)
    place' =
        omega (
          arith,
          st.place,
          word-length so stood i from m,
          word-length so stood i from (b + 1),
          ap length entry,
          length-append (word_changes so stood i from m) (change_entry (so b) (stood b) i (from + b)),
        )

    pub room-here : at + 4 * word_count (bit_at is) (bit_at was) 64 ≤ length l → next + 4 ≤ length x
    room-here fits =
        omega (
          arith,
          place',
          bit-inside,
          sum-up (λ q. bit (differ (so q) (stood q))) (b + 1) 64 (omega (arith, bit-inside)),
          ap length st.list,
          length-sets l at (word_changes so stood i from m),
        )

    pub word-goes : {t' x' : List ℕ}
        → t' ≡ follow n (change_entry (bit_at is (count_trailing_zeros 64 rest)) (not (bit_at is (count_trailing_zeros 64 rest))) i
        (from + count_trailing_zeros 64 rest)) t
        → x' ≡ sets x next (change_entry (bit_at is (count_trailing_zeros 64 rest)) (not (bit_at is (count_trailing_zeros 64 rest))) i
        (from + count_trailing_zeros 64 rest))
        → Worded is was n i from at u l t' x' (bit_and rest (rest - 1)) (next + 4)
    word-goes {t'} {x'} et ex =
        let e = ap (λ s. change_entry (so b) s i (from + b)) (other (so b) (stood b) bit-differs) in
        let p : next ≡ at + length (word_changes so stood i from m) = omega (arith, st.place, word-length so stood i from m) in
        record {
          done = b + 1;
          most = omega (arith, bit-inside);
          left =
              ap (λ (z : ℕ). bit_and z (z - 1)) st.left
              ∙ word-off (from_on-law is was m) 64 b low
              ∙ word-eq (λ j. leb (b + 1) j && from_on-law is was m j) (from_on-law is was (b + 1)) 64 (λ j _.
              inner (leb (b + 1) j) (leb m j) (bit_at (bit_xor is was) j) (λ g. le-leb m j (omega (arith, past, leb-true (b + 1) j g))));
          table =
              et
              ∙ ap₂ (λ (c z : List ℕ). follow n c z) e st.table
              ∙ sym (follow-append n (word_count so stood m) (word_changes so stood i from m) (change_entry (so b) (stood b) i (from + b)) u
              (word-length so stood i from m))
              ∙ ap (λ (z : List ℕ). follow n z u) (sym entry);
          list =
              ex
              ∙ (λ y. sets (st.list y) (p y) (e y))
              ∙ sym (sets-append l at (word_changes so stood i from m) (change_entry (so b) (stood b) i (from + b)))
              ∙ ap (sets l at) (sym entry);
          place = place';
        }

  -- ---- none is left

  module _ (none : rest ≡ 0) where
    clear : (q : ℕ) → m ≤ q → q < 64 → bit_at (bit_xor is was) q ≡ false
    clear q h g =
        sym (ap (λ s. s && bit_at (bit_xor is was) q) (le-leb m q h))
        ∙ sym (word-bit (from_on-law is was m) 64 q g)
        ∙ ap (λ (z : ℕ). bit_at z q) (sym st.left ∙ none)
        ∙ none_in q

    whole : word_changes so stood i from m ≡ word_changes so stood i from 64
    whole = sym (same-to 64 st.most clear)

    pub table-whole : t ≡ follow n (word_changes (bit_at is) (bit_at was) i from 64) u
    table-whole = st.table ∙ ap (λ (z : List ℕ). follow n z u) whole

    pub list-whole : x ≡ sets l at (word_changes (bit_at is) (bit_at was) i from 64)
    list-whole = st.list ∙ ap (sets l at) whole

    pub place-whole : next ≡ at + 4 * word_count (bit_at is) (bit_at was) 64
    place-whole = omega (arith, st.place, word-length so stood i from m, word-length so stood i from 64, ap length whole)
