-- A cell's turn over the positions of w words is its turn over the n positions of the site: past them nothing is free, and nothing was reserved.
-- Assumes nothing.
use mathlib.Core.Path.{◌≡◌, refl, sym, ap, ap₂, ◌∙◌}
use mathlib.Core.Bool.{Bool, true, false, ◌&&◌, ◌||◌, not}
use mathlib.Core.List.{List}
use mathlib.Core.Logic.{⊎_elim}
use Prim.Native.Nat.{ℕ, ◌-◌, ◌*◌, ◌≤◌, ◌<◌}
use native.Mathlib.Omega.{arith}
use borrow.Author.Tests.{lt-ltb, le-ltb, ltb-true, ltb-false}
use lib.Dec.{ltb}
use Rattle.laws.specs.Few.{first_few}
use Rattle.laws.specs.Sum.{bit, count, any}
use Rattle.laws.specs.Bits.{bit_at}
use Rattle.laws.proofs.Choice.{cases}
use Rattle.laws.proofs.Few.{few-eq}
use Rattle.laws.proofs.Sums.{sum-eq, sum-stop}
use Rattle.theory.specs.Greedy.{reserved}
use Rattle.mending.specs.Keep.{keep_at, stand_at}
use Rattle.mending.specs.Changes.{differ}
use Rattle.mending.proofs.Stand.{stand-cong}
use Rattle.sets.specs.Sets.{in_set, set_in}
use Rattle.sets.specs.Pack.{in_cell}
use Rattle.sets.proofs.Sets.{set_same}
use Rattle.standing.specs.Sets.{stands_in, free_by, free_in, OpenIn, short_count, turn_count}

-- ---- positions past the last: none is free

module _ (f o : ℕ → Bool) (l n m : ℕ) (less : n ≤ m) (none : (k : ℕ) → n ≤ k → f k ≡ false) where
  stand-within : (k : ℕ) → stand_at f o l m k ≡ stand_at f o l n k
  stand-within k =
      let c : count (keep_at f o l n) m ≡ count (keep_at f o l n) n =
      sum-stop (λ q. bit (keep_at f o l n q)) n m less (λ q h. ap (λ t. bit ((t && o q) && ltb (count (λ j. f j && o j) q) l)) (none q h)) in
      ap (λ (x : ℕ). keep_at f o l n k || first_few (λ q. f q && not (keep_at f o l n q)) (l - x) k) c

  -- nothing stands there
  stand-past : (m' k : ℕ) → n ≤ k → stand_at f o l m' k ≡ false
  stand-past m' k h =
      ap (λ t. ((t && o k) && ltb (count (λ j. f j && o j) k) l)
      || ((t && not (keep_at f o l m' k)) && ltb (count (λ j. f j && not (keep_at f o l m' j)) k) (l - count (keep_at f o l m') m')))
      (none k h)

-- ---- old reservations that are the same below n

module _ (f o q : ℕ → Bool) (l n : ℕ) (was : (k : ℕ) → k < n → q k ≡ o k) where
  keep-old : (k : ℕ) → k < n → keep_at f q l n k ≡ keep_at f o l n k
  keep-old k h = few-eq (λ j. f j && q j) (λ j. f j && o j) l k (λ j m. ap (λ b. f j && b) (was j (omega arith)))

  stand-old : (k : ℕ) → k < n → stand_at f q l n k ≡ stand_at f o l n k
  stand-old k h =
      let c : count (keep_at f q l n) n ≡ count (keep_at f o l n) n =
      sum-eq (λ j. bit (keep_at f q l n j)) (λ j. bit (keep_at f o l n j)) n (λ j m. ap bit (keep-old j m)) in
      ap₂ ◌||◌ (keep-old k h)
      (few-eq (λ j. f j && not (keep_at f q l n j)) (λ j. f j && not (keep_at f o l n j)) (l - count (keep_at f q l n) n) k
      (λ j m. ap (λ b. f j && not b) (keep-old j (omega arith)))
      ∙ ap (λ (x : ℕ). first_few (λ j. f j && not (keep_at f o l n j)) (l - x) k) c)

-- ---- tests that say the same of the positions of w words

module _ (f g o q : ℕ → Bool) (load w : ℕ) (same : (k : ℕ) → k < 64 * w → g k ≡ f k) (was : (k : ℕ) → k < 64 * w → q k ≡ o k) where
  stand-both : (k : ℕ) → k < 64 * w → stand_at g q load (64 * w) k ≡ stand_at f o load (64 * w) k
  stand-both k h = stand-cong g f q load (64 * w) same k h ∙ stand-old f o q load (64 * w) was k h

  pub set_both : set_in (stand_at g q load (64 * w)) w ≡ set_in (stand_at f o load (64 * w)) w
  set_both = set_same (stand_at g q load (64 * w)) (stand_at f o load (64 * w)) w stand-both

  pub short-both : short_count g q load (64 * w) ≡ short_count f o load (64 * w)
  short-both =
      ap (λ (c : ℕ). load - c)
      (sum-eq (λ k. bit (stand_at g q load (64 * w) k)) (λ k. bit (stand_at f o load (64 * w) k)) (64 * w) (λ k h. ap bit (stand-both k h)))

  pub count-both : turn_count g q load (64 * w) ≡ turn_count f o load (64 * w)
  count-both =
      sum-eq (λ k. bit (differ (stand_at g q load (64 * w) k) (q k))) (λ k. bit (differ (stand_at f o load (64 * w) k) (o k))) (64 * w)
      (λ k h. ap₂ (λ s t. bit (differ s t)) (stand-both k h) (was k h))

-- ---- past the n positions of the site

pub none_free : (w n : ℕ) (blocked stands : List ℕ) (row i k : ℕ) → n ≤ k → free_in w n blocked row stands i k ≡ false
none_free w n blocked stands row i k h =
    ap (λ t. (t && not (in_set blocked k)) && not (any (λ a. bit_at row a && stands_in w stands a k) i)) (le-ltb k n h)

pub none-stands : (w n : ℕ) (blocked stands : List ℕ) (row i : ℕ) (o : ℕ → Bool) (load k : ℕ) → n ≤ k
    → stand_at (free_in w n blocked row stands i) o load n k ≡ false
none-stands w n blocked stands row i o load k h =
    stand-past (free_in w n blocked row stands i) o load n n (omega arith) (none_free w n blocked stands row i) n k h

-- ---- cell i's turn: g is what the sets say is free and p what they say stood there, over the positions of w words; f is what is free of n of them,
-- and o what stood

module _ (w n : ℕ) (blocked vacant stands u old : List ℕ) (row i load : ℕ) (less : n ≤ 64 * w) (is : OpenIn w n blocked vacant)
    (packed : (k : ℕ) → k < 64 * w → stands_in w old i k ≡ in_cell n u i k) where
  abbrev g : ℕ → Bool
  g = free_by (in_set vacant) w row stands i

  abbrev f : ℕ → Bool
  f = free_in w n blocked row stands i

  abbrev p : ℕ → Bool
  p = stands_in w old i

  abbrev q : ℕ → Bool
  q = in_cell n u i

  abbrev o : ℕ → Bool
  o = reserved n u i

  free-same : (k : ℕ) → k < 64 * w → g k ≡ f k
  free-same k h = ap (λ t. t && not (any (λ a. bit_at row a && stands_in w stands a k) i)) (is k h)

  old-same : (k : ℕ) → k < n → q k ≡ o k
  old-same k h = ap (λ t. t && o k) (lt-ltb k n h)

  old-none : (k : ℕ) → n ≤ k → q k ≡ false
  old-none k h = ap (λ t. t && o k) (le-ltb k n h)

  stand-here : (k : ℕ) → k < 64 * w → stand_at g q load (64 * w) k ≡ stand_at f o load n k
  stand-here k h =
      stand-cong g f q load (64 * w) free-same k h
      ∙ stand-within f q load n (64 * w) less (none_free w n blocked stands row i) k
      ∙ ⊎_elim (λ (t : ltb k n ≡ true). stand-old f o q load n old-same k (ltb-true k n t))
      (λ (t : ltb k n ≡ false). none-stands w n blocked stands row i q load k (ltb-false k n t)
      ∙ sym (none-stands w n blocked stands row i o load k (ltb-false k n t)))
      (cases (ltb k n))

  pub set_here : set_in (stand_at g p load (64 * w)) w ≡ set_in (stand_at f o load n) w
  set_here = set_both g g q p load w (λ k h. refl) packed ∙ set_same (stand_at g q load (64 * w)) (stand_at f o load n) w stand-here

  pub short-here : short_count g p load (64 * w) ≡ short_count f o load n
  short-here =
      short-both g g q p load w (λ k h. refl) packed
      ∙ ap (λ (c : ℕ). load - c)
      (sum-eq (λ k. bit (stand_at g q load (64 * w) k)) (λ k. bit (stand_at f o load n k)) (64 * w) (λ k h. ap bit (stand-here k h))
      ∙ sum-stop (λ k. bit (stand_at f o load n k)) n (64 * w) less (λ k h. ap bit (none-stands w n blocked stands row i o load k h)))

  pub changes-here : turn_count g p load (64 * w) ≡ turn_count f o load n
  changes-here =
      count-both g g q p load w (λ k h. refl) packed
      ∙ sum-eq (λ k. bit (differ (stand_at g q load (64 * w) k) (q k))) (λ k. bit (differ (stand_at f o load n k) (q k))) (64 * w)
      (λ k h. ap (λ t. bit (differ t (q k))) (stand-here k h))
      ∙ sum-stop (λ k. bit (differ (stand_at f o load n k) (q k))) n (64 * w) less
      (λ k h. ap₂ (λ s t. bit (differ s t)) (none-stands w n blocked stands row i o load k h) (old-none k h))
      ∙ sum-eq (λ k. bit (differ (stand_at f o load n k) (q k))) (λ k. bit (differ (stand_at f o load n k) (o k))) n
      (λ k h. ap (λ t. bit (differ (stand_at f o load n k) t)) (old-same k h))
