-- `putblocks::first_bit` meets its contract: the search from here on is the search from f on. Assumes nothing.
use Rattle.std.specs.Prelude.{ℕ, ◌≡◌, ◌≤◌, max, not}
use Rattle.laws.specs.Bits.{bit_at}
use Rattle.laws.specs.Choice.{pick}
use Rattle.laws.specs.Search.{first}
use Rattle.putblocks.proofs.first_bit.Given as goal

abbrev pub invariant-loop-g : goal.invariant-loop-g
invariant-loop-g l = (l.g ≤ max l.f l.e) × (first (λ (i : ℕ). pick l.want (bit_at l.x i) (not (bit_at l.x i))) l.f l.e ≡ first
    (λ (i : ℕ). pick l.want (bit_at l.x i) (not (bit_at l.x i))) l.g l.e)
