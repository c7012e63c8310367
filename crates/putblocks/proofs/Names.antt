-- The items of a set name its positions, and fit the site. Assumes nothing.
use mathlib.Core.Path.{◌≡◌, refl, sym, ap, ap₂, ◌∙◌}
use mathlib.Core.Bool.{Bool, true, false, ◌&&◌, ◌||◌, not, and-false, or-false}
use mathlib.Core.List.{List, [], ◌∷◌, ◌++◌}
use Prim.Native.Nat.{ℕ, zero, suc, ◌+◌, ◌*◌, ◌/◌, ◌%◌, ◌≤◌, ◌<◌}
use native.Mathlib.Omega.{arith}
use native.Mathlib.Nat.{mod-lt, div-add-mod'}
use native.Mathlib.Decide.{dec_lt}
use lib.Dec.{ltb, leb, eqb}
use borrow.Author.Tests.{not-false, le-leb, lt-leb, lt-ltb, le-ltb, ltb-true, ltb-false, eqb-true}
use Rattle.laws.specs.Bits.{bit_at}
use Rattle.laws.specs.Choice.{pick}
use Rattle.laws.specs.Search.{first}
use Rattle.laws.proofs.Choice.{both}
use Rattle.laws.proofs.Search.{first_passes, first-before, first-least, first-most, first-miss}
use Rattle.laws.proofs.Words.{word-bit}
use Rattle.positions.specs.Blocked.{blocked_at}
use Rattle.blocklist.specs.Format.{Side, all, one, range, Item, side_has, item_has, list_has, side_fits, item_fits, list_fits, slot_of}
use Rattle.blocklist.proofs.Trip.{or_assoc}
use Rattle.putblocks.specs.Canon.{slot_word, side_for, run_start, run_end, runs_from, slots_end, slots_from, blocked_items}

-- ---- sides

side-has : (most a b x : ℕ) → side_has most (side_for most a b) x ≡ (leb a x && leb x b)
side-has most a b x = go (eqb a 1 && eqb b most) refl (eqb a b) refl
  where
    go : (t : Bool) → (eqb a 1 && eqb b most) ≡ t → (u : Bool) → eqb a b ≡ u → side_has most (pick t all (pick u (one a) (range a b))) x ≡ (leb a x && leb x b)
    go true e u f = let g = both (eqb a 1) (eqb b most) e in ap₂ (λ (p q : ℕ). leb p x && leb x q) (sym (eqb-true a 1 g.0)) (sym (eqb-true b most g.1))
    go false e true f = ap (λ (q : ℕ). leb a x && leb x q) (eqb-true a b f)
    go false e false f = refl

side-fits : (most a b : ℕ) → 1 ≤ a → a ≤ b → b ≤ most → side_fits most (side_for most a b) ≡ true
side-fits most a b h l m = go (eqb a 1 && eqb b most) (eqb a b)
  where
    go : (t u : Bool) → side_fits most (pick t all (pick u (one a) (range a b))) ≡ true
    go true u = refl
    go false true = rw (le-leb 1 a h, le-leb a most (omega arith))
    go false false = rw (le-leb 1 a h, le-leb a b l, le-leb b most m)

-- ---- lists

has-append : (slots channels : ℕ) (l m : List Item) (k : ℕ) → list_has slots channels (l ++ m) k ≡ (list_has slots channels l k || list_has slots channels m k)
unfolding list_has
has-append slots channels [] m k = refl
has-append slots channels (i ∷ l) m k =
    ap (λ t. item_has slots channels i k || t) (has-append slots channels l m k)
    ∙ sym (or_assoc (item_has slots channels i k) (list_has slots channels l k) (list_has slots channels m k))

fits-append : (slots channels : ℕ) (l m : List Item) → list_fits slots channels l ≡ true → list_fits slots channels m ≡ true
    → list_fits slots channels (l ++ m) ≡ true
unfolding list_fits
fits-append slots channels [] m h g = g
fits-append slots channels (i ∷ l) m h g =
    let f = both (item_fits slots channels i) (list_fits slots channels l) h in
    rw f.0 (fits-append slots channels l m f.1 g)

-- ---- the runs of channels

module _ (channels x f : ℕ) where
  start-least : f ≤ run_start channels x f
  unfolding run_start
  start-least = first-least (bit_at x) f channels

  start-before : (g : ℕ) → f ≤ g → g < run_start channels x f → bit_at x g ≡ false
  unfolding run_start
  start-before g = first-before (bit_at x) f channels g

  module _ (more : run_start channels x f < channels) where
    starts : bit_at x (run_start channels x f) ≡ true
    unfolding run_start
    starts = first_passes (bit_at x) f channels (omega (arith, first-least (bit_at x) f channels, more)) more

    pub end-past : run_start channels x f < run_end channels x f
    unfolding run_end
    end-past =
        let c = run_start channels x f in
        let e : run_end channels x f ≡ first (λ g. not (bit_at x g)) (c + 1) channels = first-miss (λ g. not (bit_at x g)) c channels more (ap not starts) in
        omega (arith, e, first-least (λ g. not (bit_at x g)) (c + 1) channels)

    pub end-most : run_end channels x f ≤ channels
    unfolding run_end
    end-most = first-most (λ g. not (bit_at x g)) (run_start channels x f) channels (omega (arith, more))

    inside-run : (g : ℕ) → run_start channels x f ≤ g → g < run_end channels x f → bit_at x g ≡ true
    unfolding run_end
    inside-run g l m = not-false (bit_at x g) (first-before (λ g. not (bit_at x g)) (run_start channels x f) channels g l m)

    -- a channel is in the first run or after it
    run-split : (g : ℕ) → let c = run_start channels x f in let e = run_end channels x f in
        ((leb (c + 1) (g + 1) && leb (g + 1) e) || (leb e g && bit_at x g)) ≡ (leb f g && bit_at x g)
    run-split g = go (dec_lt g f) (dec_lt g c) (dec_lt g e)
      where
        c : ℕ
        c = run_start channels x f

        e : ℕ
        e = run_end channels x f

        go : Dec (g < f) → Dec (g < c) → Dec (g < e) → ((leb (c + 1) (g + 1) && leb (g + 1) e) || (leb e g && bit_at x g)) ≡ (leb f g && bit_at x g)
        go (yes a) q r = rw (lt-leb f g a, lt-leb (c + 1) (g + 1) (omega (arith, start-least)), lt-leb e g (omega (arith, start-least, end-past)))
        go (no a) (yes q) r = rw (
          start-before g (omega arith) q,
          lt-leb (c + 1) (g + 1) (omega arith),
          lt-leb e g (omega (arith, end-past)),
          and-false
              (leb f g),
        )
        go (no a) (no q) (yes r) = rw (
          le-leb (c + 1) (g + 1) (omega arith),
          le-leb (g + 1) e (omega arith),
          le-leb f g (omega arith),
          inside-run g
              (omega arith) r,
        )
        go (no a) (no q) (no r) = rw (le-leb (c + 1) (g + 1) (omega arith), lt-leb (g + 1) e (omega arith), le-leb e g (omega arith), le-leb f g (omega arith))

  -- or there is no run
  no_run : channels ≤ run_start channels x f → (g : ℕ) → g < channels → false ≡ (leb f g && bit_at x g)
  no_run h g l = go (dec_lt g f)
    where
      go : Dec (g < f) → false ≡ (leb f g && bit_at x g)
      go (yes a) = rw (lt-leb f g a)
      go (no a) = rw (start-before g (omega arith) (omega (arith, h)), and-false (leb f g))

join : (s a b t : Bool) → (a || b) ≡ t → ((s && a) || (s && b)) ≡ (s && t)
join true a b t e = e
join false a b t e = refl

module _ (slots channels x : ℕ) (side : Side) (k : ℕ) (some : 0 < channels) where
  runs-has : (n f : ℕ) → channels ≤ f + n
      → list_has slots channels (runs_from n side channels x f) k ≡
      (side_has slots side (slot_of channels k) && (leb f (k % channels) && bit_at x (k % channels)))
  unfolding list_has runs_from
  runs-has zero f h = rw (lt-leb f (k % channels) (omega (arith, mod-lt k some)), and-false (side_has slots side (slot_of channels k)))
  runs-has (suc n) f h = go (ltb (run_start channels x f) channels) refl
      (λ l. runs-has n (run_end channels x f) (omega (arith, end-past channels x f l, start-least channels x f)))
    where
      s : Bool
      s = side_has slots side (slot_of channels k)

      g : ℕ
      g = k % channels

      c : ℕ
      c = run_start channels x f

      e : ℕ
      e = run_end channels x f

      go : (t : Bool) → ltb c channels ≡ t → (c < channels → list_has slots channels (runs_from n side channels x e) k ≡ (s && (leb e g && bit_at x g)))
          → list_has slots channels (pick t (record { slots = side; channels = side_for channels (c + 1) e } ∷ runs_from n side channels x e) []) k
          ≡ (s && (leb f g && bit_at x g))
      go true h ih =
          let l = ltb-true c channels h in
          ap₂ (λ u v. (s && u) || v) (side-has channels (c + 1) e (g + 1)) (ih l)
          ∙ join s (leb (c + 1) (g + 1) && leb (g + 1) e) (leb e g && bit_at x g) (leb f g && bit_at x g) (run-split channels x f l g)
      go false h ih = sym (and-false s) ∙ ap (λ t. s && t) (no_run channels x f (ltb-false c channels h) g (mod-lt k some))

runs_fit : (slots channels x : ℕ) (side : Side) → side_fits slots side ≡ true → (n f : ℕ) → list_fits slots channels (runs_from n side channels x f) ≡ true
unfolding list_fits runs_from
runs_fit slots channels x side h zero f = refl
runs_fit slots channels x side h (suc n) f = go (ltb (run_start channels x f) channels) refl (runs_fit slots channels x side h n (run_end channels x f))
  where
    go : (t : Bool) → ltb (run_start channels x f) channels ≡ t → list_fits slots channels (runs_from n side channels x (run_end channels x f)) ≡ true
        → list_fits slots channels (pick t (record
        { slots = side; channels = side_for channels (run_start channels x f + 1) (run_end channels x f) } ∷ runs_from n side channels x
        (run_end channels x f)) []) ≡ true
    go true e ih =
        let l = ltb-true (run_start channels x f) channels e in
        rw (
          h,
          side-fits channels (run_start channels x f + 1) (run_end channels x f) (omega arith) (omega (arith, end-past channels x f l))
              (end-most channels x f l),
          ih,
        )
    go false e ih = refl

-- ---- the runs of slots

module _ (words : List ℕ) (slots channels t : ℕ) where
  pub slots-past : t < slots_end words slots channels t
  unfolding slots_end
  slots-past = omega (arith, first-least (λ u. not (eqb (slot_word words channels u) (slot_word words channels t))) (t + 1) slots)

  pub slots_most : t < slots → slots_end words slots channels t ≤ slots
  unfolding slots_end
  slots_most h = first-most (λ u. not (eqb (slot_word words channels u) (slot_word words channels t))) (t + 1) slots (omega arith)

  -- the slots of a run have the same channels
  slots_same : (u : ℕ) → t ≤ u → u < slots_end words slots channels t → slot_word words channels u ≡ slot_word words channels t
  unfolding slots_end
  slots_same u l m = go (dec_lt t u)
    where
      go : Dec (t < u) → slot_word words channels u ≡ slot_word words channels t
      go (yes h) = eqb-true _ _ (not-false (eqb (slot_word words channels u) (slot_word words channels t))
          (first-before (λ v. not (eqb (slot_word words channels v) (slot_word words channels t))) (t + 1) slots u (omega arith) m))
      go (no h) = let e : u ≡ t = omega arith in ap (slot_word words channels) e

-- a bit of a slot's word is a position
slot-bit : (words : List ℕ) (channels k : ℕ) → 0 < channels → bit_at (slot_word words channels (k / channels)) (k % channels) ≡ blocked_at words k
unfolding slot_word
slot-bit words channels k h =
    word-bit (λ f. blocked_at words (k / channels * channels + f)) channels (k % channels) (mod-lt k h) ∙ ap (blocked_at words) (div-add-mod' k channels)

module _ (words : List ℕ) (slots channels k : ℕ) (some : 0 < channels) where
  -- a slot is in the first run or after it
  slot-split : (t : ℕ) → t < slots → let u = slots_end words slots channels t in let q = k / channels in let g = k % channels in
      (((leb (t + 1) (q + 1) && leb (q + 1) u) && (leb 0 g && bit_at (slot_word words channels t) g)) || (leb u q && (ltb q slots && blocked_at words k)))
      ≡ (leb t q && (ltb q slots && blocked_at words k))
  slot-split t h = go (dec_lt q t) (dec_lt q u)
    where
      u : ℕ
      u = slots_end words slots channels t

      q : ℕ
      q = k / channels

      g : ℕ
      g = k % channels

      b : Bool
      b = bit_at (slot_word words channels t) g

      go : Dec (q < t) → Dec (q < u)
          → (((leb (t + 1) (q + 1) && leb (q + 1) u) && (leb 0 g && b)) || (leb u q && (ltb q slots && blocked_at words k)))
          ≡ (leb t q && (ltb q slots && blocked_at words k))
      go (yes a) r = rw (lt-leb (t + 1) (q + 1) (omega arith), lt-leb u q (omega (arith, slots-past words slots channels t)), lt-leb t q a)
      go (no a) (yes r) =
          let same : b ≡ blocked_at words k = ap (λ (x : ℕ). bit_at x g) (sym (slots_same words slots channels t q (omega arith) r))
          ∙ slot-bit words channels k some in
          rw (
            le-leb (t + 1) (q + 1) (omega arith),
            le-leb (q + 1) u (omega arith),
            lt-leb u q r,
            le-leb t q (omega arith),
            lt-ltb q slots (omega (arith, slots_most words slots channels t h)),
            le-leb 0 g (omega arith),
            same,
            or-false (blocked_at words k),
          )
      go (no a) (no r) = rw (lt-leb (q + 1) u (omega arith), and-false (leb (t + 1) (q + 1)), le-leb u q (omega arith), le-leb t q (omega arith))

  none_past : (t : ℕ) → slots ≤ t → false ≡ (leb t (k / channels) && (ltb (k / channels) slots && blocked_at words k))
  none_past t h = go (dec_lt (k / channels) t)
    where
      go : Dec (k / channels < t) → false ≡ (leb t (k / channels) && (ltb (k / channels) slots && blocked_at words k))
      go (yes a) = rw (lt-leb t (k / channels) a)
      go (no a) = rw (le-ltb (k / channels) slots (omega arith), and-false (leb t (k / channels)))

  slots-has : (n t : ℕ) → slots ≤ t + n
      → list_has slots channels (slots_from n words slots channels t) k ≡ (leb t (k / channels) && (ltb (k / channels) slots && blocked_at words k))
  unfolding list_has slots_from
  slots-has zero t h = none_past t (omega arith)
  slots-has (suc n) t h = go (ltb t slots) refl (slots-has n (slots_end words slots channels t) (omega (arith, slots-past words slots channels t)))
    where
      u : ℕ
      u = slots_end words slots channels t

      runs : List Item
      runs = runs_from channels (side_for slots (t + 1) u) channels (slot_word words channels t) 0

      go : (c : Bool) → ltb t slots ≡ c → list_has slots channels (slots_from n words slots channels u) k
          ≡ (leb u (k / channels) && (ltb (k / channels) slots && blocked_at words k))
          → list_has slots channels (pick c (runs ++ slots_from n words slots channels u) []) k
          ≡ (leb t (k / channels) && (ltb (k / channels) slots && blocked_at words k))
      go true e ih =
          has-append slots channels runs (slots_from n words slots channels u) k
          ∙ ap₂ ◌||◌ (runs-has slots channels (slot_word words channels t) (side_for slots (t + 1) u) k some channels 0 (omega arith)
          ∙ ap (λ c. c && (leb 0 (k % channels) && bit_at (slot_word words channels t) (k % channels))) (side-has slots (t + 1) u (k / channels + 1))) ih
          ∙ slot-split t (ltb-true t slots e)
      go false e ih = none_past t (ltb-false t slots e)

  -- the items of a set name its positions
  pub items-name : list_has slots channels (blocked_items words slots channels) k ≡ (ltb (k / channels) slots && blocked_at words k)
  items-name = slots-has slots 0 (omega arith) ∙ rw (le-leb 0 (k / channels) (omega arith)) refl

-- they fit the site
slots-fit : (words : List ℕ) (slots channels n t : ℕ) → list_fits slots channels (slots_from n words slots channels t) ≡ true
unfolding list_fits slots_from
slots-fit words slots channels zero t = refl
slots-fit words slots channels (suc n) t = go (ltb t slots) refl (slots-fit words slots channels n (slots_end words slots channels t))
  where
    u : ℕ
    u = slots_end words slots channels t

    go : (c : Bool) → ltb t slots ≡ c → list_fits slots channels (slots_from n words slots channels u) ≡ true
        → list_fits slots channels (pick c (runs_from channels (side_for slots (t + 1) u) channels (slot_word words channels t) 0
        ++ slots_from n words slots channels u) []) ≡ true
    go true e ih =
        fits-append slots channels (runs_from channels (side_for slots (t + 1) u) channels (slot_word words channels t) 0) (slots_from n words slots channels u)
        (runs_fit slots channels (slot_word words channels t) (side_for slots (t + 1) u)
        (side-fits slots (t + 1) u (omega arith) (omega (arith, slots-past words slots channels t))
        (slots_most words slots channels t (ltb-true t slots e))) channels 0) ih
    go false e ih = refl

pub items-fit : (words : List ℕ) (slots channels : ℕ) → list_fits slots channels (blocked_items words slots channels) ≡ true
items-fit words slots channels = slots-fit words slots channels slots 0
