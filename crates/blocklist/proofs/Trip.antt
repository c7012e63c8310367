-- A written list is read as what it says: a position is in the set exactly when some item has its slot and its channel. Assumes nothing.
use mathlib.Core.Path.{◌≡◌, refl, sym, ap, ap₂, ◌∙◌}
use mathlib.Core.Bool.{Bool, true, false, ◌&&◌, ◌||◌, or-false}
use mathlib.Core.List.{List, [], ◌∷◌, ◌++◌, append_assoc, append-nil}
use Prim.Native.Nat.{ℕ, zero, suc, ◌+◌, ◌-◌, ◌/◌, ◌%◌, ◌≤◌, ◌<◌}
use native.Mathlib.Omega.{arith}
use lib.ListN.{length, drop, length-append, length-drop, get_or-replicate}
use lib.Pow.{pow_pos}
use Rattle.laws.specs.Bits.{bit_at}
use Rattle.laws.proofs.Bits.{bit-above}
use Rattle.laws.proofs.Choice.{both}
use Rattle.lines.specs.Match.{nowhere, eaten}
use Rattle.positions.specs.Blocked.{most_positions, blocked_at, empty_set, set_of}
use Rattle.positions.proofs.Sets.{in-set, set-eq}
use Rattle.blocklist.specs.Format.{Item, side_text, item_text, list_text, side_fits, item_fits, list_fits, item_has, list_has, between_byte, dot_byte}
use Rattle.blocklist.specs.Format.{slot_of, channel_of}
use Rattle.blocklist.specs.Read.{span_read, block_read, covers, with_block, fine_list, list_from, sizes_fit, read_list}
use Rattle.blocklist.specs.declared.Block.{Block}
use Rattle.blocklist.proofs.Steps.{list-ended, list_on, sizes-are, read-fit}
use Rattle.blocklist.proofs.Sides.{Closed, closed-end, closed-byte, after_text, inside, eaten-yes, span_for, span-has, side-read}

pub or_assoc : (a b c : Bool) → ((a || b) || c) ≡ (a || (b || c))
or_assoc true b c = refl
or_assoc false b c = refl

-- ---- an item

-- what is read of it, where it begins at `at`
abbrev pub block_for : ℕ → ℕ → Item → ℕ → Block
block_for slots channels i at =
    record { slots = span_for slots i.slots (at + length (side_text i.slots)); channels = span_for channels i.channels (at + length (item_text i)) }

pub block-has : (slots channels : ℕ) (i : Item) (at k : ℕ) → covers channels (block_for slots channels i at) k ≡ item_has slots channels i k
unfolding covers
block-has slots channels i at k =
    ap₂ ◌&&◌ (span-has slots i.slots (at + length (side_text i.slots)) (slot_of channels k))
    (span-has channels i.channels (at + length (item_text i)) (channel_of channels k))

pub item-long : (i : Item) → 0 < length (item_text i)
item-long i = omega (arith, length-append (side_text i.slots) (dot_byte ∷ side_text i.channels))

module _ (s : List ℕ) (short : length s < nowhere) (slots channels : ℕ) (few : slots ≤ 128) (narrow : channels ≤ 16) where
  pub block-read : (at : ℕ) (i : Item) (r : List ℕ) → item_fits slots channels i ≡ true → Closed r → drop at s ≡ item_text i ++ r
      → block_read s at slots channels ≡ block_for slots channels i at
  unfolding block_read
  block-read at i r h c e =
      let f = both (side_fits slots i.slots) (side_fits channels i.channels) h in
      let a = side_text i.slots in
      let b = side_text i.channels in
      let p = at + length a in
      let w : drop at s ≡ a ++ (dot_byte ∷ (b ++ r)) = e ∙ append_assoc a (dot_byte ∷ b) r in
      let w₁ : drop p s ≡ (dot_byte ∷ []) ++ (b ++ r) = after_text s at a _ w in
      let w₂ : drop (p + 1) s ≡ b ++ r = after_text s p (dot_byte ∷ []) _ w₁ in
      let dot : eaten s p (dot_byte ∷ []) ≡ p + 1 = eaten-yes s p (dot_byte ∷ []) _ w₁ in
      let q : p + 1 + length b ≡ at + length (item_text i) = omega (arith, length-append a (dot_byte ∷ b)) in
      let first : span_read s at slots ≡ span_for slots i.slots p =
      side-read s short at slots few i.slots (dot_byte ∷ (b ++ r)) f.0 (closed-byte dot_byte (b ++ r) (omega arith) (λ z. omega (arith, z))) w in
      let second : span_read s (p + 1) channels ≡ span_for channels i.channels (at + length (item_text i)) =
      side-read s short (p + 1) channels (omega arith) i.channels r f.1 c w₂ ∙ ap (span_for channels i.channels) q in
      rw (first, dot, second)

  -- ---- the items

  pub items-read : (l : List Item) (i : Item) (n : ℕ) (set : List ℕ) (at : ℕ) → list_fits slots channels (i ∷ l) ≡ true → length l ≤ n → drop at s
      ≡ list_text (i ∷ l)
      → list_from (suc n) s slots channels set at ≡ fine_list (set_of (λ k. blocked_at set k || list_has slots channels (i ∷ l) k))
  unfolding list_text list_fits list_has with_block
  items-read [] i n set at h m e =
      let f = both (item_fits slots channels i) true h in
      let w : drop at s ≡ item_text i ++ [] = e ∙ sym (append-nil (item_text i)) in
      let end : at + length (item_text i) ≡ length s = omega (arith, inside s at (item_text i) [] (item-long i) w, sym (length-drop at s) ∙ ap length e) in
      let b = block_for slots channels i at in
      sym (list-ended s slots channels set at n b (sym (block-read at i [] f.0 closed-end w)) (with_block channels b set) refl end)
      ∙ ap fine_list (set-eq (λ k. blocked_at set k || covers channels b k) (λ k. blocked_at set k || (item_has slots channels i k || false))
      (λ k l. ap (λ t. blocked_at set k || t) (block-has slots channels i at k ∙ sym (or-false (item_has slots channels i k)))))
  items-read (j ∷ l) i zero set at h m e = absurd (omega arith)
  items-read (j ∷ l) i (suc n) set at h m e =
      let f = both (item_fits slots channels i) _ h in
      let rest = list_text (j ∷ l) in
      let p = at + length (item_text i) in
      let w₁ : drop p s ≡ (between_byte ∷ []) ++ rest = after_text s at (item_text i) _ e in
      let w₂ : drop (p + 1) s ≡ rest = after_text s p (between_byte ∷ []) rest w₁ in
      let here : p + 1 ≤ length s = inside s p (between_byte ∷ []) rest (omega arith) w₁ in
      let b = block_for slots channels i at in
      let with = with_block channels b set in
      let closed = closed-byte between_byte rest (omega arith) (λ z. omega (arith, z)) in
      sym (list_on s slots channels set at (suc n) b (sym (block-read at i (between_byte ∷ rest) f.0 closed e)) with refl (λ z. omega (arith, z)) (p + 1)
      (sym (eaten-yes s p (between_byte ∷ []) rest w₁)) (λ z. omega (arith, z)))
      ∙ items-read l j n with (p + 1) f.1 (omega arith) w₂
      ∙ ap fine_list (set-eq (λ k. blocked_at with k || list_has slots channels (j ∷ l) k)
      (λ k. blocked_at set k || (item_has slots channels i k || list_has slots channels (j ∷ l) k))
      (λ k g. ap (λ t. t || list_has slots channels (j ∷ l) k)
      (in-set (λ q. blocked_at set q || covers channels b q) k g ∙ ap (λ t. blocked_at set k || t) (block-has slots channels i at k))
      ∙ or_assoc (blocked_at set k) (item_has slots channels i k) (list_has slots channels (j ∷ l) k)))

-- ---- the list

-- there are not more items than bytes
pub items-few : (l : List Item) (i : Item) → length (i ∷ l) ≤ length (list_text (i ∷ l))
unfolding list_text
items-few [] i = omega (arith, item-long i)
items-few (j ∷ l) i = omega (arith, length-append (item_text i) (between_byte ∷ list_text (j ∷ l)), items-few l j)

-- nothing is in the empty set
pub empty-none : (k : ℕ) → k < most_positions → blocked_at empty_set k ≡ false
empty-none k h = ap (λ (x : ℕ). bit_at x (k % 64)) (get_or-replicate {A = ℕ} 32 (k / 64) 0 0 (omega arith)) ∙ bit-above 0 (k % 64) (pow_pos (k % 64))

-- the list of any items that fit the site is read, and its set is what the items name
pub list-means : (slots channels : ℕ) (i : Item) (l : List Item) → sizes_fit slots channels ≡ true → list_fits slots channels (i ∷ l) ≡ true
    → length (list_text (i ∷ l)) < nowhere → read_list (list_text (i ∷ l)) slots channels ≡ fine_list (set_of (list_has slots channels (i ∷ l)))
list-means slots channels i l h f short =
    let z = sizes-are slots channels h in
    let s = list_text (i ∷ l) in
    let few : length (i ∷ l) ≤ length s = items-few l i in
    let e : suc (length s - 1) ≡ length s = omega arith in
    sym (read-fit s slots channels h) ∙ ap (λ (n : ℕ). list_from n s slots channels empty_set 0) (sym e)
    ∙ items-read s short slots channels z.1 z.3 l i (length s - 1) empty_set 0 f (omega arith) refl
    ∙ ap fine_list (set-eq (λ k. blocked_at empty_set k || list_has slots channels (i ∷ l) k) (list_has slots channels (i ∷ l))
    (λ k g. ap (λ t. t || list_has slots channels (i ∷ l) k) (empty-none k g)))

-- so a position is in the set exactly when some item of the list has its slot and its channel
pub list-blocks : (slots channels : ℕ) (i : Item) (l : List Item) → sizes_fit slots channels ≡ true → list_fits slots channels (i ∷ l) ≡ true
    → length (list_text (i ∷ l)) < nowhere → (k : ℕ) → k < most_positions
    → blocked_at (read_list (list_text (i ∷ l)) slots channels).blocked k ≡ list_has slots channels (i ∷ l) k
list-blocks slots channels i l h f short k g = rw (list-means slots channels i l h f short) (in-set (list_has slots channels (i ∷ l)) k g)
