-- The list of a set, read, gives the set back; and how long it can be. Assumes nothing.
use mathlib.Core.Path.{◌≡◌, refl, sym, ap, ◌∙◌}
use mathlib.Core.Bool.{Bool, true, false, ◌&&◌, and-false, true≢false}
use mathlib.Core.List.{List, [], ◌∷◌, ◌++◌}
use Prim.Native.Nat.{ℕ, zero, suc, ◌+◌, ◌*◌, ◌/◌, ◌^◌, ◌≤◌, ◌<◌}
use native.Mathlib.Omega.{arith}
use native.Mathlib.Nat.{mul-le-mul, div-lt_iff_lt-mul, suc-mul}
use native.Mathlib.Decide.{dec_lt}
use lib.Dec.{ltb, leb}
use lib.ListN.{length, get_or, length-append}
use borrow.Author.Tests.{leb-true, lt-ltb}
use Rattle.laws.specs.Choice.{pick}
use Rattle.laws.proofs.Any.{any_some}
use Rattle.laws.proofs.Choice.{both}
use Rattle.laws.proofs.Search.{first-before}
use Rattle.text.specs.Decimal.{decimal}
use Rattle.text.proofs.Digits.{decimal-long}
use Rattle.lines.specs.Match.{nowhere}
use Rattle.positions.specs.Blocked.{most_positions, blocked_at, any_in, first_past, set_of}
use Rattle.positions.proofs.Sets.{set-eq, set_back}
use Rattle.blocklist.specs.Format.{Side, all, one, range, Item, side_text, item_text, list_text, side_fits, item_fits, list_fits, list_has, between_byte}
use Rattle.blocklist.specs.Format.{dash_byte, dot_byte}
use Rattle.blocklist.specs.Read.{fine_list, sizes_fit, read_list}
use Rattle.blocklist.proofs.Steps.{sizes-are}
use Rattle.blocklist.proofs.Trip.{list-means}
use Rattle.putblocks.specs.Canon.{slot_word, side_for, run_start, run_end, runs_from, slots_end, slots_from, blocked_items, blocked_text}
use Rattle.putblocks.proofs.Names.{items-name, items-fit}

-- ---- how long

side-long : (d most : ℕ) (x : Side) → most < 10 ^ suc d → side_fits most x ≡ true → length (side_text x) ≤ suc d + (1 + suc d)
side-long d most all h f = omega arith
side-long d most (one n) h f =
    let g = both (leb 1 n) (leb n most) f in
    omega (arith, decimal-long d n (omega (arith, leb-true n most g.1)))
side-long d most (range a b) h f =
    let g = both (leb 1 a) _ f in
    let i = both (leb a b) (leb b most) g.1 in
    let up : a ≤ b = leb-true a b i.0 in
    let high : b ≤ most = leb-true b most i.1 in
    omega (arith, length-append (decimal a) (dash_byte ∷ decimal b), decimal-long d a (omega arith), decimal-long d b (omega arith))

module _ (slots channels : ℕ) (few : slots ≤ 128) (narrow : channels ≤ 16) where
  item-long : (i : Item) → item_fits slots channels i ≡ true → length (item_text i) ≤ 13
  item-long i f =
      let g = both (side_fits slots i.slots) (side_fits channels i.channels) f in
      omega (
        arith,
        length-append (side_text i.slots) (dot_byte ∷ side_text i.channels),
        side-long 2 slots i.slots (omega arith)
            g.0,
        side-long 1 channels i.channels (omega arith) g.1,
      )

  list-long : (l : List Item) → list_fits slots channels l ≡ true → length (list_text l) ≤ 14 * length l
  unfolding list_text list_fits
  list-long [] f = omega arith
  list-long (i ∷ []) f = let g = both (item_fits slots channels i) true f in omega (arith, item-long i g.0)
  list-long (i ∷ (j ∷ l)) f =
      let g = both (item_fits slots channels i) _ f in
      omega (arith, item-long i g.0, length-append (item_text i) (between_byte ∷ list_text (j ∷ l)), list-long (j ∷ l) g.1)

runs-few : (channels x : ℕ) (side : Side) (n f : ℕ) → length (runs_from n side channels x f) ≤ n
unfolding runs_from
runs-few channels x side zero f = omega arith
runs-few channels x side (suc n) f = go (ltb (run_start channels x f) channels) (runs-few channels x side n (run_end channels x f))
  where
    go : (t : Bool) → length (runs_from n side channels x (run_end channels x f)) ≤ n
        → length (pick t (record {
          slots = side;
          channels = side_for channels (run_start channels x f + 1)
              (run_end channels x f);
        } ∷ runs_from n side channels x (run_end channels x f)) []) ≤ suc n
    go true h = omega (arith, h)
    go false h = omega arith

slots-few : (words : List ℕ) (slots channels n t : ℕ) → length (slots_from n words slots channels t) ≤ n * channels
unfolding slots_from
slots-few words slots channels zero t = omega arith
slots-few words slots channels (suc n) t = go (ltb t slots) (slots-few words slots channels n (slots_end words slots channels t))
  where
    u : ℕ
    u = slots_end words slots channels t

    runs : List Item
    runs = runs_from channels (side_for slots (t + 1) u) channels (slot_word words channels t) 0

    go : (c : Bool) → length (slots_from n words slots channels u) ≤ n * channels
        → length (pick c (runs ++ slots_from n words slots channels u) []) ≤ suc n * channels
    go true h =
        omega (
          arith,
          h,
          length-append runs (slots_from n words slots channels u),
          runs-few channels (slot_word words channels t)
              (side_for slots (t + 1) u) channels 0,
          suc-mul n channels,
        )
    go false h = omega arith

-- room for the longest: 14 bytes for each of 2,048 items
pub text-room : (words : List ℕ) (slots channels : ℕ) → slots ≤ 128 → channels ≤ 16 → length (blocked_text words slots channels) ≤ 28672
text-room words slots channels few narrow =
    let most : slots * channels ≤ 128 * 16 = mul-le-mul few narrow in
    omega (
      arith,
      list-long slots channels few narrow (blocked_items words slots channels)
          (items-fit words slots channels),
      slots-few words slots channels slots 0,
      most,
    )

-- ---- back

module _ (words : List ℕ) (slots channels : ℕ) (sizes : sizes_fit slots channels ≡ true) where
  -- some position of the site is in the set, so the list has an item
  some_item : any_in words (slots * channels) ≡ true → blocked_items words slots channels ≡ [] → ⊥
  unfolding list_has
  some_item h e =
      let z = sizes-are slots channels sizes in
      let r = any_some (blocked_at words) (slots * channels) h in
      let q : r.0 / channels < slots = (div-lt_iff_lt-mul z.2).1 r.1 in
      true≢false (sym (items-name words slots channels r.0 z.2 ∙ rw (lt-ltb (r.0 / channels) slots q, r.2) refl)
      ∙ ap (λ (l : List Item). list_has slots channels l r.0) e)

  read-items : (l : List Item) → (l ≡ [] → ⊥) → list_fits slots channels l ≡ true → length (list_text l) < nowhere
      → read_list (list_text l) slots channels ≡ fine_list (set_of (list_has slots channels l))
  read-items [] n f short = absurd (n refl)
  read-items (i ∷ l) n f short = list-means slots channels i l sizes f short

  -- the list of a set is read as the positions of the site that are in the set
  pub list_back : any_in words (slots * channels) ≡ true
      → read_list (blocked_text words slots channels) slots channels ≡ fine_list (set_of (λ k. ltb (k / channels) slots && blocked_at words k))
  list_back h =
      let z = sizes-are slots channels sizes in
      read-items (blocked_items words slots channels) (some_item h) (items-fit words slots channels)
      (omega (arith, text-room words slots channels z.1 z.3))
      ∙ ap fine_list (set-eq (list_has slots channels (blocked_items words slots channels)) (λ k. ltb (k / channels) slots && blocked_at words k)
      (λ k l. items-name words slots channels k z.2))

  -- where no position past the site is in the set, it is the set itself
  pub list-whole : any_in words (slots * channels) ≡ true → first_past words (slots * channels) ≡ most_positions → length words ≡ 32
      → ((j : ℕ) → j < 32 → get_or words j 0 < 2 ^ 64)
      → read_list (blocked_text words slots channels) slots channels ≡ fine_list words
  list-whole h none long fits =
      list_back h ∙ ap fine_list (set-eq (λ k. ltb (k / channels) slots && blocked_at words k) (blocked_at words) (λ k l. go k l (dec_lt k (slots * channels)))
      ∙ set_back words long fits)
    where
      go : (k : ℕ) → k < most_positions → Dec (k < slots * channels) → (ltb (k / channels) slots && blocked_at words k) ≡ blocked_at words k
      go k l (yes g) = let z = sizes-are slots channels sizes in rw (lt-ltb (k / channels) slots ((div-lt_iff_lt-mul z.2).1 g)) refl
      go k l (no g) = rw (
        first-before (blocked_at words) (slots * channels) most_positions k (omega arith) (omega (arith, none)),
        and-false
            (ltb (k / channels) slots),
      ) refl
