-- The room that is lent is enough: w words for each of 32 cells hold 64 * w positions each, and 32 words the most that a site has. Assumes nothing.
use Prim.Native.Nat.{ℕ, ◌*◌, ◌≤◌}
use native.Mathlib.Nat.{mul-le-mul_right}
use native.Mathlib.Omega.{arith}
use Rattle.site.specs.Record.{positions}
use Rattle.site.specs.declared.Site.{Site}
use Rattle.site.proofs.Faults.{fine-sized, few-positions}
use Rattle.mender.specs.Mend.{words_for, SetRoom, RowRoom}

module _ (s : Site) (m : ℕ) where
  pub few-sets : (w : ℕ) → positions s ≤ 64 * w → 32 * w ≤ m → SetRoom s m
  few-sets w few h e = omega (arith, mul-le-mul_right (words_for (positions s)) (fine-sized s e).cells_most)

  pub few-row : (w : ℕ) → positions s ≤ 64 * w → 256 * w ≤ m → RowRoom s m
  few-row w few h e = omega arith

  pub large-sets : 1024 ≤ m → SetRoom s m
  large-sets h e = few-sets 32 (few-positions (fine-sized s e)) h e

  pub large-row : 8192 ≤ m → RowRoom s m
  large-row h e = few-row 32 (few-positions (fine-sized s e)) h e
