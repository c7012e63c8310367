-- The load test of a set of flows, flow by flow: a cell's demand is the sum of what the flows of the set add to it (`demand-flat`).
-- In the class a test of the loaded cells alone and one of all cells say the same (`allowed-everyone`), so that every cell may be tested,
-- loaded or not (`allowed-flat`).
-- Assumes nothing.
use mathlib.Core.Path.{◌≡◌, refl, sym, ap, ◌∙◌}
use mathlib.Core.Bool.{Bool, true, false, ◌&&◌, ◌||◌}
use mathlib.Core.Logic.{◌↔◌}
use Prim.Native.Nat.{ℕ, ◌+◌, ◌≤◌, ◌<◌}
use native.Mathlib.Omega.{arith}
use lib.Dec.{ltb, eqb}
use borrow.Author.Tests.{le-ltb, eq-eqb, ne_eqb, eqb-true}
use Rattle.laws.specs.Bits.{bit_at}
use Rattle.laws.specs.Choice.{pick}
use Rattle.laws.specs.Sum.{sum}
use Rattle.laws.proofs.Sums.{sum-eq, sum-add, sum-none, sum-swap, sum-single}
use Rattle.theory.specs.Net.{Net, everyone, loaded, Class, LoadTest, room, lower, demand}
use Rattle.theory.proofs.Exact.{covers-everyone, covers-loaded, test-plans, class-exact}
use Rattle.admitting.specs.Best.{Flows, total, load_in, beside, allowed_beside}
use Rattle.bestset.specs.Code.{weight_at}
use Rattle.admitting.proofs.Best.{beside-means}

gated-sum : (b : Bool) (g : ℕ → ℕ) (n : ℕ) → pick b (sum g n) 0 ≡ sum (λ k. pick b (g k) 0) n
gated-sum true g n = refl
gated-sum false g n = sym (sum-none n)

off : (a b t : Bool) (w : ℕ) → t ≡ false → pick a (pick b (pick t w 0) 0) 0 ≡ 0
off true true t w h = rw h refl
off true false t w h = refl
off false b t w h = refl

join : (m e l c : Bool) (w : ℕ) → (e ≡ true → l ≡ false)
    → pick m (pick e w 0) 0 + pick l (pick c (pick m (pick true w 0) 0) 0) 0 ≡ pick m (pick (e || (l && c)) w 0) 0
join true true true c w h = let z : ◌≡◌ {A = ℕ} 0 1 = cc (h refl) in absurd (omega arith)
join true true false c w h = omega arith
join true false true true w h = omega arith
join true false true false w h = omega arith
join true false false c w h = omega arith
join false e true true w h = omega arith
join false e true false w h = omega arith
join false e false c w h = omega arith

module _ (s : Net) (f : Flows) (x i : ℕ) where
  -- what flow k brings to cell j
  abbrev brings : ℕ → ℕ → ℕ
  brings j k = pick (bit_at x k) (pick (eqb (f.cell k) j) (f.share k) 0) 0

  -- what flow k adds by way of the lower clashing cells
  abbrev below : ℕ → ℕ
  below k = pick (ltb (f.cell k) i) (pick (s.clash (f.cell k) i) (pick (bit_at x k) (pick true (f.share k) 0) 0) 0) 0

  by-flow : (k : ℕ) → sum (λ j. pick (s.clash j i) (brings j k) 0) i ≡ below k
  by-flow k =
      sum-single (λ j. pick (s.clash j i) (brings j k) 0) (f.cell k) i
      (λ j n. off (s.clash j i) (bit_at x k) (eqb (f.cell k) j) (f.share k) (ne_eqb (f.cell k) j (λ e. n (sym e))))
      ∙ ap
      (λ t. pick (ltb (f.cell k) i) (pick (s.clash (f.cell k) i) (pick (bit_at x k) (pick t (f.share k) 0) 0) 0) 0)
      (eq-eqb (f.cell k) (f.cell k) refl)

  -- what the flows of the set bring to the lower clashing cells
  abbrev pub lower_in : ℕ
  lower_in = sum (λ j. pick (s.clash j i) (load_in f x j) 0) i

  lower-flat : lower_in ≡ sum below f.count
  lower-flat =
      sum-eq (λ j. pick (s.clash j i) (load_in f x j) 0) (λ j. sum (λ k. pick (s.clash j i) (brings j k) 0) f.count) i
      (λ j _. gated-sum (s.clash j i) (brings j) f.count)
      ∙ sum-swap (λ j k. pick (s.clash j i) (brings j k) 0) i f.count
      ∙ sum-eq (λ k. sum (λ j. pick (s.clash j i) (brings j k) 0) i) below f.count (λ k _. by-flow k)

  pub demand-flat : load_in f x i + lower_in ≡ total (weight_at s f i) f.count x
  demand-flat =
      ap (λ (n : ℕ). load_in f x i + n) lower-flat
      ∙ sym (sum-add (brings i) below f.count)
      ∙ sum-eq (λ k. brings i k + below k) (λ k. pick (bit_at x k) (weight_at s f i k) 0) f.count
      (λ k _.
      join (bit_at x k) (eqb (f.cell k) i) (ltb (f.cell k) i) (s.clash (f.cell k) i) (f.share k)
      (λ e. let q : f.cell k ≡ i = eqb-true (f.cell k) i e in le-ltb (f.cell k) i (omega arith)))

gated-add : (b : Bool) (v w : ℕ) → pick b (v + w) 0 ≡ pick b v 0 + pick b w 0
gated-add true v w = refl
gated-add false v w = refl

-- a cell's demand beside the loads is its demand by the loads, and what the flows of the set add
module _ (s : Net) (f : Flows) (x i : ℕ) where
  lower-beside : lower (beside s f x) i ≡ lower_in s f x i + lower s i
  lower-beside =
      sum-eq (λ j. pick (s.clash j i) (load_in f x j + s.load j) 0) (λ j. pick (s.clash j i) (load_in f x j) 0 + pick (s.clash j i) (s.load j) 0) i
      (λ j _. gated-add (s.clash j i) (load_in f x j) (s.load j))
      ∙ sum-add (λ j. pick (s.clash j i) (load_in f x j) 0) (λ j. pick (s.clash j i) (s.load j) 0) i

  pub demand-beside : demand (beside s f x) i ≡ demand s i + total (weight_at s f i) f.count x
  demand-beside = omega (arith, lower-beside, demand-flat s f x i)

module _ (s : Net) (f : Flows) (class : Class s everyone) (x : ℕ) where
  -- in the class a set is allowed exactly where no cell at all is over
  pub allowed-everyone : allowed_beside s f x ≡ true ↔ LoadTest (beside s f x) everyone
  allowed-everyone = (
    λ e.
        let net = beside s f x in
        (class-exact net everyone (covers-everyone net) class).1 (test-plans net (loaded net) (covers-loaded net) ((beside-means s f x).0 e)),
    λ h. (beside-means s f x).1 (λ i l _. h i l refl),
  )

  -- that is, where what the flows of the set add fits beside the loads in every cell
  pub allowed-flat : allowed_beside s f x ≡ true ↔ ((i : ℕ) → i < s.cells → demand s i + total (weight_at s f i) f.count x ≤ room s)
  allowed-flat = (
    λ e i l. omega (arith, demand-beside s f x i, allowed-everyone.0 e i l refl),
    λ h. allowed-everyone.1 (λ i l _. omega (arith, demand-beside s f x i, h i l)),
  )
