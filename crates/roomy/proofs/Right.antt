-- What is left to a cell is right, over tables, whoever made them.
--     room-plans       where the load test holds, the problem with as much more as is left is planned
--     room-exact       in the class, with the cell counted, no table is valid with more
--     loaded-class     a loaded cell counts as it is, so that the class is that of the problem
--     none-raised      nothing more is the problem itself
--     less-valid       a valid table with more has a valid table with less in it
-- Assumes nothing.
use mathlib.Core.Path.{◌≡◌, refl, sym, ap, ◌∙◌}
use mathlib.Core.Bool.{Bool, true, false, ◌&&◌, ◌||◌}
use mathlib.Core.Logic.{⊎_elim}
use Prim.Native.Nat.{ℕ, ◌+◌, ◌≤◌, ◌<◌, min}
use native.Mathlib.Omega.{arith}
use native.Mathlib.Nat.{min-eq_left}
use lib.Dec.{ltb, eqb}
use borrow.Author.Tests.{lt-ltb, eqb-true, eq-eqb}
use Rattle.laws.specs.Choice.{pick}
use Rattle.laws.specs.Sum.{bit, count}
use Rattle.laws.proofs.Choice.{cases, both}
use Rattle.laws.proofs.Sums.{sum-eq, count-first}
use Rattle.theory.specs.Net.{Net, Reserved, Valid, LoadTest, Class, Covers, loaded, room}
use Rattle.theory.specs.Greedy.{Plans}
use Rattle.theory.proofs.Exact.{test-plans, class-exists, covers-loaded}
use Rattle.roomy.specs.Room.{raised, counted_with, room_left}
use Rattle.roomy.proofs.Raised.{raised-holds, raised-most}

module _ (s : Net) (i : ℕ) (inside : i < s.cells) (m : ℕ) where
  pub room-plans : LoadTest s (loaded s) → m ≤ room_left s i → Plans (raised s i m)
  room-plans h few =
      test-plans (raised s i m) (loaded (raised s i m)) (covers-loaded (raised s i m)) (raised-holds s i inside m h few)

  covers : Covers (raised s i m) (counted_with s i)
  covers j l h = counts (eqb j i) (s.load j) h
    where
      counts : (t : Bool) (l : ℕ) → 0 < pick t (l + m) l → (t || ltb 0 l) ≡ true
      counts true l h = refl
      counts false l h = lt-ltb 0 l h

  pub room-exact : Class s (counted_with s i) → room_left s i < m → (res : Reserved) → Valid (raised s i m) res → ⊥
  room-exact class more res v =
      omega (arith, raised-most s i inside m ((class-exists (raised s i m) (counted_with s i) covers class).1 (res, v)))

-- a loaded cell is one of the loaded cells
pub loaded-class : (s : Net) (i : ℕ) → 0 < s.load i → Class s (loaded s) → Class s (counted_with s i)
loaded-class s i some class a b c ab bc inside pa pb pc = class a b c ab bc inside (was a pa) (was b pb) (was c pc)
  where
    was : (j : ℕ) → counted_with s i j ≡ true → loaded s j ≡ true
    was j p = ⊎_elim (λ e. let same : j ≡ i = eqb-true j i e in rw same (lt-ltb 0 (s.load i) some)) (λ e. rw e at p) (cases (eqb j i))

-- ---- a table with fewer reservations: cell i keeps its first ones

module _ (s : Net) (i m : ℕ) (res : Reserved) (v : Valid (raised s i m) res) where
  abbrev early : ℕ → ℕ → Bool
  early j k = pick (eqb j i) (ltb (count (res i) k) (s.load i)) true

  abbrev fewer : Reserved
  fewer j k = res j k && early j k

  was : (j k : ℕ) → fewer j k ≡ true → res j k ≡ true
  was j k e = (both (res j k) (early j k) e).0

  own-exact : i < s.cells → count (fewer i) s.width ≡ s.load i
  own-exact l =
      let first : (k : ℕ) → k < s.width → bit (fewer i k) ≡ bit (res i k && ltb (count (res i) k) (s.load i)) =
      λ k _. ap (λ t. bit (res i k && pick t (ltb (count (res i) k) (s.load i)) true)) (eq-eqb i i refl) in
      let all : count (res i) s.width ≡ s.load i + m = v.exact i l ∙ ap (λ t. pick t (s.load i + m) (s.load i)) (eq-eqb i i refl) in
      sum-eq (λ k. bit (fewer i k)) (λ k. bit (res i k && ltb (count (res i) k) (s.load i))) s.width first
      ∙ count-first (res i) (s.load i) s.width
      ∙ ap (min (s.load i)) all
      ∙ min-eq_left (omega arith)

  other-exact : (j : ℕ) → j < s.cells → eqb j i ≡ false → count (fewer j) s.width ≡ s.load j
  other-exact j l e =
      sum-eq (λ k. bit (fewer j k)) (λ k. bit (res j k)) s.width (λ k _. ap bit (kept (res j k) (eqb j i) _ e))
      ∙ v.exact j l ∙ ap (λ t. pick t (s.load j + m) (s.load j)) e
    where
      kept : (r e x : Bool) → e ≡ false → (r && pick e x true) ≡ r
      kept true e x h = rw h
      kept false e x h = refl

  pub less-valid : i < s.cells → Valid s fewer
  less-valid inside = record {
    apart = λ a c k l n w h p q. v.apart a c k l n w h (was a k p) (was c k q);
    exact = λ j l. ⊎_elim
        (λ e. let same : j ≡ i = eqb-true j i e in rw same (own-exact inside)) (other-exact j l) (cases (eqb j i));
    allowed = λ j k l w p. v.allowed j k l w (was j k p);
  }

-- nothing more is the problem itself
pub none-raised : (s : Net) (i : ℕ) (res : Reserved) → Valid s res → Valid (raised s i 0) res
none-raised s i res v = record {
  apart = v.apart;
  exact = λ j l. v.exact j l ∙ none (eqb j i) (s.load j);
  allowed = v.allowed;
}
  where
    none : (t : Bool) (l : ℕ) → l ≡ pick t (l + 0) l
    none true l = omega arith
    none false l = refl
