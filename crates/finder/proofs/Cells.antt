-- The test of a set of cells, as the code makes it: cells that are all in one another's clash rows clash with one another, since clash goes both ways; a word
-- with a bit beyond the cells is no set of them; and the loads of 32 places are those of the cells, since an accepted record has none beyond.
-- Assumes nothing.
use mathlib.Core.Path.{◌≡◌, refl, sym, ap, ◌∙◌}
use mathlib.Core.Bool.{Bool, true, false, not, ◌||◌, true≢false, or-true}
use mathlib.Core.List.{List}
use mathlib.Core.Logic.{⊎_elim}
use Prim.Native.Nat.{ℕ, ◌+◌, ◌-◌, ◌/◌, ◌^◌, ◌<◌}
use native.Mathlib.Omega.{arith}
use lib.Dec.{ltb, eqb}
use lib.ListN.{get_or}
use borrow.Author.Tests.{ne_eqb, eq-eqb, not-true, lt-ltb}
use Rattle.laws.specs.Bits.{bit_at, bit_in}
use Rattle.laws.specs.Choice.{pick}
use Rattle.laws.specs.Sum.{sum}
use Rattle.laws.proofs.Any.{any_none, none_any}
use Rattle.laws.proofs.Bits.{some_left, none_left}
use Rattle.laws.proofs.Choice.{refute, alike, order, not-both, second-not, pick_same}
use Rattle.laws.proofs.Sums.{sum-eq, sum-none, sum-split}
use Rattle.theory.specs.Net.{room}
use Rattle.theory.specs.Full.{weight}
use Rattle.loads.specs.Loads.{loads_in}
use Rattle.numberrows.specs.Words.{misses_in, close_in}
use Rattle.heaviest.specs.Sets.{mutual_in}
use Rattle.heaviest.proofs.Mutual.{mutual-means, mutual-few}
use Rattle.site.specs.Record.{fault_of}
use Rattle.site.specs.Reach.{net_of, clash_of}
use Rattle.site.specs.declared.Site.{Site}
use Rattle.std.specs.Prelude.{Ok}
use Rattle.site.proofs.Accepted.{fine-sound}
use Rattle.site.proofs.Faults.{fine-sized}
use Rattle.site.proofs.Reach.{clash-sym}
use Rattle.finding.specs.Found.{over_full}
use Rattle.finding.proofs.Over.{over-means}

-- where neither is missing and the first is not, the second is there
second : (a b : Bool) → not (a || b) ≡ false → a ≡ false → b ≡ true
second true b e h = absurd (true≢false h)
second false true e h = refl
second false false e h = absurd (true≢false e)

module _ (rows : List ℕ) (x : ℕ) where
  close-mutual : close_in rows x ≡ true → mutual_in (bit_in rows) 32 x ≡ true
  unfolding close_in misses_in
  close-mutual e =
      (mutual-means (bit_in rows) 32 x).1
      (λ a b l m p q.
      let misses = second-not (bit_at x a) _ (any_none _ 32 (not-true _ e) a (omega arith)) p in
      second (eqb a b) (bit_in rows a b) (second-not (bit_at x b) _ (any_none _ 32 misses b m) q) (ne_eqb a b (omega arith)))

  module _ (both_ways-law : (a b : ℕ) → bit_in rows a b ≡ bit_in rows b a) (e : mutual_in (bit_in rows) 32 x ≡ true) where
    there : (a b : ℕ) → a < 32 → b < 32 → bit_at x a ≡ true → bit_at x b ≡ true → (eqb a b || bit_in rows a b) ≡ true
    there a b l m p q =
        ⊎_elim
        (λ h. ap (λ t. eqb a b || t) ((mutual-means (bit_in rows) 32 x).0 e a b h m p q) ∙ or-true (eqb a b))
        (⊎_elim
        (λ h. ap (λ t. t || bit_in rows a b) (eq-eqb a b h))
        (λ h. ap (λ t. eqb a b || t) (both_ways-law a b ∙ (mutual-means (bit_in rows) 32 x).0 e b a h l q p) ∙ or-true (eqb a b)))
        (order a b)

    mutual-close : close_in rows x ≡ true
    unfolding close_in misses_in
    mutual-close =
        ap not (none_any _ 32 (λ a l. not-both (bit_at x a) _ (λ p. none_any _ 32 (λ b m. not-both (bit_at x b) _ (λ q. ap not (there a b l m p q))))))

-- ---- a site

module _ (s : Site) (fine : fault_of s ≡ Ok tt) (x : ℕ) where
  -- what stands at a place of the loads
  abbrev load : ℕ → ℕ
  load j = pick (bit_at x j) (get_or s.loads j 0) 0

  pub load_is : loads_in s.loads x ≡ weight (net_of s) (bit_at x)
  load_is =
      let most = (fine-sized s fine).cells_most in
      let e : s.cells + (32 - s.cells) ≡ 32 = omega arith in
      let none : sum (λ j. load (s.cells + j)) (32 - s.cells) ≡ sum (λ _. 0) (32 - s.cells)
      = sum-eq _ _ (32 - s.cells)
      (λ j l.
      ap (λ (y : ℕ). pick (bit_at x (s.cells + j)) y 0) ((fine-sound s fine).loads (s.cells + j) (omega arith) (omega arith))
      ∙ pick_same (bit_at x (s.cells + j)) 0) in
      let split : sum load 32 ≡ sum load s.cells + sum (λ j. load (s.cells + j)) (32 - s.cells)
      = rw e at (sum-split load s.cells (32 - s.cells)) in
      omega (arith, split, none, sum-none (32 - s.cells))

  -- a bit beyond the cells
  pub beyond : (x / 2 ^ s.cells ≡ 0 → ⊥) → over_full (net_of s) x ≡ false
  beyond h =
      refute (over_full (net_of s) x)
      (λ e. let l : s.cells < s.cells = some_left x s.cells s.cells ((over-means (net_of s) x).0 e).0 h in omega arith)

  module _ (rows : List ℕ) (states : bit_in rows ≡ clash_of s) where
    both_ways-law : (a b : ℕ) → bit_in rows a b ≡ bit_in rows b a
    both_ways-law a b = ap (λ (r : ℕ → ℕ → Bool). r a b) states ∙ clash-sym s.rule s.reach a b ∙ sym (ap (λ (r : ℕ → ℕ → Bool). r b a) states)

    close-is : x < 2 ^ s.cells → close_in rows x ≡ mutual_in (clash_of s) s.cells x
    close-is l =
        alike (close_in rows x) (mutual_in (bit_in rows) 32 x) (close-mutual rows x) (mutual-close rows x both_ways-law)
        ∙ ap (λ (r : ℕ → ℕ → Bool). mutual_in r 32 x) states
        ∙ mutual-few (clash_of s) s.cells 32 x (fine-sized s fine).cells_most l

    pub not-close : close_in rows x ≡ false → over_full (net_of s) x ≡ false
    not-close h =
        refute (over_full (net_of s) x)
        (λ e.
        let m = (over-means (net_of s) x).0 e in
        true≢false (sym ((mutual-means (clash_of s) s.cells x).1 m.1) ∙ sym (close-is m.0) ∙ h))

    pub is-close : close_in rows x ≡ true → x / 2 ^ s.cells ≡ 0 → over_full (net_of s) x ≡ ltb (room (net_of s)) (weight (net_of s) (bit_at x))
    unfolding over_full
    is-close h z =
        let l : x < 2 ^ s.cells = none_left x s.cells z in
        let m : mutual_in (clash_of s) s.cells x ≡ true = sym (close-is l) ∙ h in
        rw (lt-ltb x (2 ^ s.cells) l, m) refl

pub ruleset by_rows = (beyond, not-close, is-close)
