-- The steps of the reader: a side of an item, the word of an item's positions, the items one by one. Assumes nothing.
use mathlib.Core.Path.{◌≡◌, sym, ap, ◌∙◌}
use mathlib.Core.Bool.{Bool, true, false, ◌||◌}
use mathlib.Core.List.{List, [], ◌∷◌}
use Prim.Native.Nat.{ℕ, suc, ◌+◌, ◌*◌, ◌^◌, ◌≤◌, ◌<◌}
use native.Mathlib.Omega.{arith}
use lib.Bits.{bit_or, or_lt}
use lib.Dec.{leb}
use lib.ListN
use lib.ListN.{length, get_or}
use lib.Seq.{sets}
use borrow.Author.Tests.{eq-eqb, ne_eqb, leb-true}
use Rattle.laws.specs.Bits.{bit_at, word_of}
use Rattle.laws.specs.Part.{list_of}
use Rattle.laws.proofs.Bits.{bit-either}
use Rattle.laws.proofs.Choice.{both}
use Rattle.laws.proofs.Stores.{length-list, sets-all, sets-beyond, sets_more}
use Rattle.laws.proofs.Words.{word_lt, word-bit, word-eq, bits-eq}
use Rattle.lines.specs.Match.{nowhere, eaten}
use Rattle.lines.specs.Content.{number_read}
use Rattle.lines.specs.declared.Number.{Number}
use Rattle.positions.specs.Blocked.{blocked_at, empty_set, word_in}
use Rattle.positions.proofs.Counts.{blocked-at}
use Rattle.blocklist.specs.Format.{star_byte, between_byte, dash_byte, slot_of, channel_of}
use Rattle.blocklist.specs.Read.{span_of, span_read, block_read, in_span, covers, with_block, fine_list, bad_list, list_from, sizes_fit, read_list}
use Rattle.blocklist.specs.declared.Block.{Block}

-- ---- a side of an item

module _ (s : List ℕ) (at most star : ℕ) (is-star : star ≡ eaten s at (star_byte ∷ [])) where
  pub span-star : (star ≡ nowhere → ⊥) → record { from = 1; to = most; next = star } ≡ span_read s at most
  unfolding span_read
  span-star h = rw (← is-star, ne_eqb star nowhere h)

  module _ (no-star : star ≡ nowhere) (a : Number) (is-a : a ≡ number_read s at most) (dash : ℕ) (is-dash : dash ≡ eaten s a.next (dash_byte ∷ [])) where
    pub span-one : dash ≡ nowhere → span_of a.value a.value a.next ≡ span_read s at most
    unfolding span_read
    span-one h = rw (← is-star, eq-eqb star nowhere no-star, ← is-a, ← is-dash, eq-eqb dash nowhere h)

    pub span-two : (dash ≡ nowhere → ⊥) → (b : Number) → b ≡ number_read s dash most → span_of a.value b.value b.next ≡ span_read s at most
    unfolding span_read
    span-two h b is_b = rw (← is-star, eq-eqb star nowhere no-star, ← is-a, ← is-dash, ne_eqb dash nowhere h, ← is_b)

-- ---- the positions of an item

-- the slot is not an item's; and where it is, the channel decides
module _ (channels : ℕ) (b : Block) (k : ℕ) where
  pub covers-no : in_span b.slots (slot_of channels k) ≡ false → false ≡ covers channels b k
  unfolding covers
  covers-no h = rw h

  pub covers-by : in_span b.slots (slot_of channels k) ≡ true → in_span b.channels (channel_of channels k) ≡ covers channels b k
  unfolding covers
  covers-by h = rw h

-- the word of what x has or passes
pub word-joined : (p : ℕ → Bool) (x y : ℕ) → x < 2 ^ 64 → y ≡ word_of p 64 → bit_or x y ≡ word_of (λ b. bit_at x b || p b) 64
word-joined p x y fits is =
    bits-eq (λ b. bit_at x b || p b) (bit_or x y) 64 (or_lt 64 x y fits (rw is (word_lt p 64)))
    (λ b l. bit-either x y b ∙ ap (λ t. bit_at x b || t) (ap (λ (z : ℕ). bit_at z b) is ∙ word-bit p 64 b l))

-- word j of a set and an item
pub word-with : (channels : ℕ) (b : Block) (set : List ℕ) (j : ℕ)
    → word_of (λ i. bit_at (get_or set j 0) i || covers channels b (64 * j + i)) 64 ≡ word_in (λ k. blocked_at set k || covers channels b k) j
word-with channels b set j =
    word-eq (λ i. bit_at (get_or set j 0) i || covers channels b (64 * j + i)) (λ i. blocked_at set (64 * j + i) || covers channels b (64 * j + i)) 64
    (λ i l. ap (λ t. t || covers channels b (64 * j + i)) (sym (blocked-at set j i l)))

-- the words below j are joined
abbrev pub joined_to : ℕ → Block → List ℕ → ℕ → List ℕ
joined_to channels b set j = sets set 0 (list_of (word_in (λ k. blocked_at set k || covers channels b k)) j)

-- one word more
pub joined-more : (channels : ℕ) (b : Block) (set now : List ℕ) (j v : ℕ) → now ≡ joined_to channels b set j
    → v ≡ word_of (λ i. bit_at (get_or now j 0) i || covers channels b (64 * j + i)) 64 → lib.ListN.set now j v ≡ joined_to channels b set (j + 1)
joined-more channels b set now j v is e =
    let p : ℕ → Bool = λ k. blocked_at set k || covers channels b k in
    let same : get_or now j 0 ≡ get_or set j 0 = ap (λ (l : List ℕ). get_or l j 0) is ∙ sets-beyond (word_in p) j set j (omega arith) in
    sets_more (word_in p) j v now set
    (e ∙ ap (λ (x : ℕ). word_of (λ i. bit_at x i || covers channels b (64 * j + i)) 64) same ∙ word-with channels b set j) is

-- all of them
pub joined-all : (channels : ℕ) (b : Block) (set : List ℕ) → length set ≡ 32 → joined_to channels b set 32 ≡ with_block channels b set
unfolding with_block
joined-all channels b set long =
    let p : ℕ → Bool = λ k. blocked_at set k || covers channels b k in
    sets-all (list_of (word_in p) 32) set (length-list (word_in p) 32 ∙ sym long)

-- ---- item by item

module _ (s : List ℕ) (slots channels : ℕ) (set : List ℕ) (at n : ℕ) (b : Block) (is_b : b ≡ block_read s at slots channels) (with : List ℕ)
    (is-with : with ≡ with_block channels b set) where
  pub list-ended : b.channels.next ≡ length s → fine_list with ≡ list_from (suc n) s slots channels set at
  unfolding list_from
  list-ended h = rw (← is_b, eq-eqb b.channels.next (length s) h, ← is-with)

  module _ (on : b.channels.next ≡ length s → ⊥) (comma : ℕ) (is-comma : comma ≡ eaten s b.channels.next (between_byte ∷ [])) where
    pub list-bad : comma ≡ nowhere → bad_list at ≡ list_from (suc n) s slots channels set at
    unfolding list_from
    list-bad h = rw (← is_b, ne_eqb b.channels.next (length s) on, ← is-comma, eq-eqb comma nowhere h)

    pub list_on : (comma ≡ nowhere → ⊥) → list_from n s slots channels with comma ≡ list_from (suc n) s slots channels set at
    unfolding list_from
    list_on h = rw (← is_b, ne_eqb b.channels.next (length s) on, ← is-comma, ne_eqb comma nowhere h, ← is-with)

-- a set with an item has 32 words
pub with-long : (channels : ℕ) (b : Block) (set : List ℕ) → length (with_block channels b set) ≡ 32
unfolding with_block
with-long channels b set = length-list (word_in (λ k. blocked_at set k || covers channels b k)) 32

-- ---- the sizes

-- what sizes of a site give
pub sizes-are : (slots channels : ℕ) → sizes_fit slots channels ≡ true → (1 ≤ slots) × (slots ≤ 128) × (1 ≤ channels) × (channels ≤ 16)
unfolding sizes_fit
sizes-are slots channels h =
    let a = both (leb 1 slots) _ h in
    let b = both (leb slots 128) _ a.1 in
    let c = both (leb 1 channels) (leb channels 16) b.1 in
    (leb-true 1 slots a.0, leb-true slots 128 b.0, leb-true 1 channels c.0, leb-true channels 16 c.1)

pub read-unfit : (s : List ℕ) (slots channels : ℕ) → sizes_fit slots channels ≡ false → bad_list 0 ≡ read_list s slots channels
unfolding read_list
read-unfit s slots channels h = rw h

pub read-fit : (s : List ℕ) (slots channels : ℕ) → sizes_fit slots channels ≡ true → list_from (length s) s slots channels empty_set 0
    ≡ read_list s slots channels
unfolding read_list
read-fit s slots channels h = rw h
