-- The bars of the loads stay in their place, stand one on the other, and are marked exactly where the load test says that a cell is over. Assumes nothing.
--     bar-over      a bar has the mark exactly where its cell is over in the load test
--     bar-stands    the load stands on what the earlier cells send, and reaches as high as the demand
use Prim.Native.Nat.{ℕ, ◌+◌, ◌-◌, ◌*◌, ◌/◌, ◌≤◌, ◌<◌}
use mathlib.Core.Path.{◌≡◌, refl}
use mathlib.Core.Bool.{Bool, true, false}
use native.Mathlib.Nat.{div-lt_iff_lt-mul, le-div_iff_mul-le}
use native.Mathlib.Omega.{arith}
use lib.Dec.{ltb}
use borrow.Author.Tests.{ltb-true, ltb-false, ne_eqb}
use Rattle.laws.specs.Choice.{pick}
use Rattle.laws.specs.Most.{greater}
use Rattle.laws.proofs.Most.{most-above}
use Rattle.theory.specs.Net.{room, lower, demand, loaded}
use Rattle.theory.specs.Verdict.{overloaded, asks, most_demand}
use Rattle.site.specs.Record.{load_at}
use Rattle.site.specs.Reach.{net_of}
use Rattle.site.specs.declared.Site.{Site}
use Rattle.phrases.specs.declared.Phrase.TheVariants.{Row}
use Rattle.drawing.specs.Loads.{bar_high, load_bar, is_over, load_row, bar_scale}

-- the greater of two is at least each
pub greater-left : (a b : ℕ) → a ≤ greater a b
greater-left a b = go (ltb a b) refl
  where
    go : (t : Bool) → ltb a b ≡ t → a ≤ pick t b a
    go true e = omega (arith, ltb-true a b e)
    go false e = omega arith

pub greater-right : (a b : ℕ) → b ≤ greater a b
greater-right a b = go (ltb a b) refl
  where
    go : (t : Bool) → ltb a b ≡ t → b ≤ pick t b a
    go true e = omega arith
    go false e = omega (arith, ltb-false a b e)

-- what is at most the whole is at most 150 units high
pub high-within : (scale x : ℕ) → 0 < scale → x ≤ scale → bar_high scale x ≤ 150
high-within scale x s l =
    let less : x * 150 / scale < 151 = (div-lt_iff_lt-mul {k = scale} s).1 (omega arith) in
    omega (arith, less)

-- and what is more is no lower
pub high-more : (scale x y : ℕ) → 0 < scale → x ≤ y → bar_high scale x ≤ bar_high scale y
high-more scale x y s l =
    let q : ℕ = x * 150 / scale in
    let back : q * scale ≤ x * 150 = (le-div_iff_mul-le s).0 (omega arith) in
    (le-div_iff_mul-le s).1 (omega (arith, back))

module _ (s : Site) where
  pub scale-some : 0 < bar_scale s
  unfolding bar_scale
  scale-some = greater-left 1 (greater (room (net_of s)) (most_demand (net_of s) (loaded (net_of s))))

  pub scale-room : room (net_of s) ≤ bar_scale s
  unfolding bar_scale
  scale-room =
      let most = most_demand (net_of s) (loaded (net_of s)) in
      omega (arith, greater-left (room (net_of s)) most, greater-right 1 (greater (room (net_of s)) most))

  pub scale-asks : (i : ℕ) → i < s.cells → pick (ltb 0 (load_at s i)) (load_at s i + lower (net_of s) i) 0 ≤ bar_scale s
  unfolding bar_scale most_demand
  scale-asks i l =
      let most = most_demand (net_of s) (loaded (net_of s)) in
      omega (
        arith,
        most-above (asks (net_of s) (loaded (net_of s))) s.cells i l,
        greater-right (room (net_of s)) most,
        greater-right 1 (greater (room (net_of s)) most),
      )

  -- "If a bar is over the room it is marked": the cells that are over in the load test
  pub bar-over : (i : ℕ) → is_over (load_at s i) (lower (net_of s) i) (room (net_of s)) ≡ overloaded (net_of s) (loaded (net_of s)) i
  unfolding overloaded
  bar-over i = refl

-- its foot is where the bar of the earlier cells ends, and its upper end is as high as the demand
pub bar-stands : (x load before scale : ℕ) → 0 < load → 0 < scale → load + before ≤ scale
    → (y : ℕ) × (high : ℕ) × (load_bar x load before scale ≡ Row load_row (x - 15) y high 0)
    × (y + bar_high scale before ≡ 620) × (y ≡ (620 - bar_high scale (load + before)) + high)
unfolding load_bar
bar-stands x load before scale some fine l =
    let low = high-within scale before fine (omega arith) in
    let top = high-within scale (load + before) fine l in
    let more = high-more scale before (load + before) fine (omega arith) in (
      620 - bar_high scale before,
      bar_high scale (load + before) - bar_high scale before,
      rw (ne_eqb load 0 (λ e. omega arith)),
      omega (arith, low),
      omega (arith, low, top, more),
    )
