-- `rowapart::mask_size` meets its contract: the set is empty, or it is not. Assumes nothing.
use mathlib.Core.Path.{◌≡◌, refl, sym, ◌∙◌}
use mathlib.Core.Bool.{Bool, true, false, not}
use Prim.Native.Nat.{ℕ}
use native.Mathlib.Omega.{arith}
use Rattle.laws.specs.Choice.{pick}
use Rattle.positions.specs.Blocked.{most_positions, any_in}
use Rattle.rowapart.proofs.mask_size.Goals as goal

none : (t : Bool) (n : ℕ) → not t ≡ true → 0 ≡ pick t n 0
none true n e = let z : ◌≡◌ {A = ℕ} 0 1 = cc in absurd (omega arith)
none false n e = refl

some : (t : Bool) (n : ℕ) → not t ≡ false → n ≡ pick t n 0
some true n e = refl
some false n e = let z : ◌≡◌ {A = ℕ} 0 1 = cc in absurd (omega arith)

pub returns-then-none_blocked : goal.returns-then-none_blocked
returns-then-none_blocked c = let a = c.args in
    none (any_in a.blocked.now most_positions) a.n (sym c.none_blocked.ensures ∙ c.if-none_blocked.true)

pub returns : goal.returns
returns c = let a = c.args in
    some (any_in a.blocked.now most_positions) a.n (sym c.none_blocked.ensures ∙ c.if-none_blocked.false)
