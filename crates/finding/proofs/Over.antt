-- What a set of cells that is over says.
--     over-means       its cells are the problem's, clash with one another, and have more load than there are usable positions
--     over_none        so no table is valid
--     heaviest-first   some set is over exactly when the heaviest is
-- Assumes nothing.
use mathlib.Core.Path.{◌≡◌}
use mathlib.Core.Bool.{Bool, true, false}
use mathlib.Core.Logic.{◌↔◌}
use Prim.Native.Nat.{ℕ, ◌^◌, ◌<◌}
use native.Mathlib.Omega.{arith}
use lib.Dec.{ltb}
use borrow.Author.Tests.{ltb-true, ltb-false, lt-ltb}
use Rattle.laws.specs.Bits.{bit_at}
use Rattle.laws.proofs.Choice.{both, both_is}
use Rattle.theory.specs.Net.{Net, room}
use Rattle.theory.specs.Full.{Mutual, weight}
use Rattle.theory.proofs.Full.{full}
use Rattle.heaviest.specs.Sets.{mutual_in, heaviest_set}
use Rattle.heaviest.proofs.Mutual.{mutual-means, heaviest-is}
use Rattle.finding.specs.Found.{over_full, heaviest_over}
use Rattle.finding.specs.Means.{NeverValid, NoneOver}

module _ (s : Net) where
  pub over-means : (x : ℕ) → (over_full s x ≡ true) ↔ ((x < 2 ^ s.cells) × Mutual s (bit_at x) × (room s < weight s (bit_at x)))
  unfolding over_full
  over-means x = (
    λ e.
        let a = both (ltb x (2 ^ s.cells)) _ e in
        let b = both (mutual_in s.clash s.cells x) (ltb (room s) (weight s (bit_at x))) a.1 in
        (ltb-true x (2 ^ s.cells) a.0, (mutual-means s.clash s.cells x).0 b.0, ltb-true (room s) (weight s (bit_at x)) b.1),
    λ h.
        both_is (ltb x (2 ^ s.cells)) _ (lt-ltb x (2 ^ s.cells) h.0)
        (both_is (mutual_in s.clash s.cells x) (ltb (room s) (weight s (bit_at x))) ((mutual-means s.clash s.cells x).1 h.1)
        (lt-ltb (room s) (weight s (bit_at x)) h.2)),
  )

  pub over_none : (x : ℕ) → over_full s x ≡ true → NeverValid s
  over_none x e = let h = (over-means x).0 e in full s (bit_at x) h.1 h.2

  -- ---- the heaviest set

  pub heaviest-over : heaviest_over s ≡ true → over_full s (heaviest_set s) ≡ true
  heaviest-over e =
      (over-means (heaviest_set s)).1 ((heaviest-is s).inside, (heaviest-is s).close, ltb-true (room s) (weight s (bit_at (heaviest_set s))) e)

  pub none_over : heaviest_over s ≡ false → NoneOver s
  none_over e chosen h = omega (arith, (heaviest-is s).most chosen h, ltb-false (room s) (weight s (bit_at (heaviest_set s))) e)

  pub over-heaviest : (chosen : ℕ → Bool) → Mutual s chosen → room s < weight s chosen → heaviest_over s ≡ true
  over-heaviest chosen h l = lt-ltb (room s) (weight s (bit_at (heaviest_set s))) (omega (arith, (heaviest-is s).most chosen h))
