-- The limit only hides the end of a search that needs more tries (`limit-exact`), so that a larger one alters no end (`limit-larger`). Assumes nothing.
use mathlib.Core.Path.{◌≡◌, refl, ap}
use mathlib.Core.Bool.{Bool, true, false}
use Rattle.laws.specs.Choice.{pick}
use mathlib.Core.Logic.{◌↔◌}
use Prim.Native.Nat.{ℕ, ◌≤◌, ◌<◌}
use native.Mathlib.Omega.{arith}
use lib.Dec.{ltb}
use borrow.Author.Tests.{ltb-true, ltb-false, lt-ltb, le-ltb}
use Rattle.theory.specs.Net.{Net}
use Rattle.tries.specs.Search.{End, tries_of, search_of, ended, limit_met, searched}

limited-met : (r : End) (t : Bool) → pick t limit_met (ended r) ≡ limit_met → t ≡ true
limited-met r true h = refl
limited-met r false h = absurd (let z : ◌≡◌ {A = ℕ} 0 1 = cc in omega arith)

limited-ended : (r q : End) (t : Bool) → pick t limit_met (ended r) ≡ ended q → (t ≡ false) × (r ≡ q)
limited-ended r q true h = absurd (let z : ◌≡◌ {A = ℕ} 0 1 = cc in omega arith)
limited-ended r q false h = (refl, cc)

-- "Limit met is ended exactly when the search needs more tries than the limit."
pub limit-exact : (s : Net) (limit : ℕ) → (searched s limit ≡ limit_met) ↔ (limit < tries_of (search_of s))
limit-exact s limit = (
  λ h. ltb-true limit (tries_of (search_of s)) (limited-met (search_of s) (ltb limit (tries_of (search_of s))) h),
  λ h. rw (lt-ltb limit (tries_of (search_of s)) h),
)

-- what is ended is the search's own end, with its own count
pub ended_is : (s : Net) (limit : ℕ) (r : End) → searched s limit ≡ ended r → (search_of s ≡ r) × (tries_of r ≤ limit)
ended_is s limit r h =
    let x = limited-ended (search_of s) r (ltb limit (tries_of (search_of s))) h in
    (x.1, omega (arith, ltb-false limit (tries_of (search_of s)) x.0, ap tries_of x.1))

-- "a larger limit never alters either of them or its count"
pub limit-larger : (s : Net) (limit more : ℕ) (r : End) → limit ≤ more → searched s limit ≡ ended r → searched s more ≡ ended r
limit-larger s limit more r l h =
    let x = ended_is s limit r h in
    rw (le-ltb more (tries_of (search_of s)) (omega (arith, ap tries_of x.0))) (ap ended x.0)
