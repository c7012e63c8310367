-- The loads of all 32 places of an accepted record are those of its cells: past them there are none. Assumes nothing.
use mathlib.Core.Path.{◌≡◌, refl, ◌∙◌}
use mathlib.Core.Bool.{true, false}
use mathlib.Core.Logic.{⊎_elim}
use Prim.Native.Nat.{ℕ, ◌≤◌, ◌<◌}
use native.Mathlib.Omega.{arith}
use lib.Dec.{ltb}
use lib.ListN.{get_or}
use borrow.Author.Tests.{lt-ltb, ltb-true}
use Rattle.laws.specs.Bits.{bit_at}
use Rattle.laws.specs.Choice.{pick}
use Rattle.laws.specs.Sum.{sum}
use Rattle.laws.proofs.Lowest.{bit-all}
use Rattle.laws.proofs.Choice.{cases}
use Rattle.laws.proofs.Sums.{sum-eq, sum-stop}
use Rattle.site.specs.Record.{fault_of}
use Rattle.site.specs.Reach.{net_of}
use Rattle.site.specs.declared.Site.{Site}
use Rattle.std.specs.Prelude.{Ok}
use Rattle.site.proofs.Accepted.{fine-sound}
use Rattle.site.proofs.Faults.{fine-sized}
use Rattle.loads.specs.Loads.{loads_in}

module _ (s : Site) (fine : fault_of s ≡ Ok tt) where
  abbrev part : ℕ → ℕ
  part j = pick (bit_at 4294967295 j) (get_or s.loads j 0) 0

  past : (k : ℕ) → s.cells ≤ k → part k ≡ 0
  past k l =
      ⊎_elim
      (λ e. let b : bit_at 4294967295 k ≡ true = bit-all 32 k ∙ e in rw b ((fine-sound s fine).loads k l (ltb-true k 32 e)))
      (λ e. let b : bit_at 4294967295 k ≡ false = bit-all 32 k ∙ e in rw b refl)
      (cases (ltb k 32))

  inside : (k : ℕ) → k < s.cells → part k ≡ get_or s.loads k 0
  inside k h = rw (bit-all 32 k, lt-ltb k 32 (omega (arith, (fine-sized s fine).cells_most))) refl

  pub loads-all : loads_in s.loads 4294967295 ≡ sum (net_of s).load s.cells
  loads-all = sum-stop part s.cells 32 (fine-sized s fine).cells_most past ∙ sum-eq part (λ k. get_or s.loads k 0) s.cells inside
