-- A word laid down at the open positions: one position more, and where no position is blocked. Assumes nothing.
use mathlib.Core.Path.{◌≡◌, sym, ap, ap₂, ◌∙◌}
use mathlib.Core.Bool.{Bool, true, false, not}
use mathlib.Core.List.{List}
use Prim.Native.Nat.{ℕ, ◌+◌, ◌≤◌, ◌<◌}
use native.Mathlib.Omega.{arith}
use lib.ListN.{set}
use lib.Seq.{sets}
use Rattle.laws.specs.Choice.{pick}
use Rattle.laws.specs.Part.{list_of}
use Rattle.laws.specs.Sum.{bit}
use Rattle.laws.proofs.Any.{any_none}
use Rattle.laws.proofs.Stores.{list-eq, sets-after}
use Rattle.laws.proofs.Sums.{sum-eq, sum_more, count-all}
use Rattle.positions.specs.Blocked.{most_positions, blocked_at, any_in}
use Rattle.site.specs.Reach.{is_open}
use Rattle.stretches.specs.Stretches.{gated, open_from}

pub at_most_one : (t : Bool) → bit (not t) ≤ 1
at_most_one true = omega arith
at_most_one false = omega arith

-- one position more, whose bit is `shut`
module _ (blocked : List ℕ) (from span : ℕ) {shut : Bool} (is : shut ≡ blocked_at blocked (from + span)) where
  pub free_more : {used one : ℕ} → used ≡ open_from blocked from span → one ≡ bit (not shut) → used + one ≡ open_from blocked from (span + 1)
  free_more h e = ap₂ ◌+◌ h (e ∙ ap (λ t. bit (not t)) is) ∙ sym (sum_more (λ d. bit (is_open blocked (from + d))) span)

  pub laid_more : (word : ℕ) {v : ℕ} (x words : List ℕ) → v ≡ pick (not shut) word 0 → x ≡ sets words from (list_of (gated blocked from word) span)
      → set x (from + span) v ≡ sets words from (list_of (gated blocked from word) (span + 1))
  laid_more word {v} x words e d = sets-after (gated blocked from word) from span v x words (e ∙ ap (λ t. pick (not t) word 0) is) d

-- where no position is blocked, all are open
module _ (blocked : List ℕ) (none : any_in blocked most_positions ≡ false) (from run : ℕ) (few : from + run ≤ most_positions) where
  all-free : (d : ℕ) → d < run → is_open blocked (from + d) ≡ true
  all-free d l = ap not (any_none (blocked_at blocked) most_positions none (from + d) (omega arith))

  pub free_all : run ≡ open_from blocked from run
  free_all = sym (sum-eq (λ d. bit (is_open blocked (from + d))) (λ d. bit true) run (λ d l. ap bit (all-free d l)) ∙ count-all run)

  pub laid-all : (word : ℕ) (words w : List ℕ) → w ≡ sets words from (list_of (λ _. word) run)
      → w ≡ sets words from (list_of (gated blocked from word) run)
  laid-all word words w e =
      e ∙ ap (sets words from) (list-eq (λ _. word) (gated blocked from word) run (λ d l. sym (ap (λ t. pick t word 0) (all-free d l))))
