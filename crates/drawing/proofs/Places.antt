-- The sizes of the slot map of a site whose sizes are in range: a slot has some width, a channel some height, and no number has more than five digits. Two
-- places begin at one point only where they are one. Assumes nothing.
use Prim.Native.Nat.{ℕ, ◌+◌, ◌*◌, ◌/◌, ◌≤◌, ◌<◌}
use mathlib.Core.Path.{◌≡◌, refl, sym, ap, ◌∙◌}
use mathlib.Core.Bool.{Bool, true, false}
use native.Mathlib.Nat.{mul-le-mul, mul-le-mul_right, le-div_iff_mul-le, mul-add, mul_assoc, mul_comm}
use native.Mathlib.Omega.{arith}
use lib.Dec.{ltb}
use borrow.Author.Tests.{ltb-true, ltb-false}
use Rattle.laws.specs.Choice.{pick}
use Rattle.laws.proofs.Choice.{at_least}
use Rattle.laws.proofs.Grid.{row_before, same_place}
use Rattle.site.specs.declared.Site.{Site}
use Rattle.site.proofs.Faults.{Sized}
use Rattle.drawing.specs.Places.{slot_wide, channel_high, band_step, across_of, down_of}

module _ (s : Site) where
  pub wide-most : slot_wide s ≤ 416
  unfolding slot_wide
  wide-most = omega arith

  pub high-most : channel_high s ≤ 48
  unfolding channel_high
  high-most = omega arith

  module _ (sizes : Sized s) where
    pub wide-some : 0 < slot_wide s
    unfolding slot_wide
    wide-some = let some : 1 ≤ 1664 / s.slots = (le-div_iff_mul-le sizes.slots_some).1 (omega (arith, sizes.slots_most)) in omega (arith, some)

    pub rows-some : 0 < s.cells * s.channels
    rows-some = omega (arith, mul-le-mul sizes.cells_some sizes.channels_some)

    pub rows-most : s.cells * s.channels ≤ 512
    rows-most = mul-le-mul sizes.cells_most sizes.channels_most

    pub high-some : 0 < channel_high s
    unfolding channel_high
    high-some = let some : 1 ≤ 1536 / (s.cells * s.channels) = (le-div_iff_mul-le rows-some).1 (omega (arith, rows-most)) in omega (arith, some)

    -- the channels of all cells, and their bands with what is between them
    pub high-share : channel_high s * (s.cells * s.channels) ≤ 1536
    unfolding channel_high
    high-share = (le-div_iff_mul-le rows-some).0 (omega arith)

    pub bands-most : s.cells * band_step s ≤ 1920
    bands-most =
        let h = channel_high s in
        let apart : s.cells * (s.channels * h + 12) ≡ h * (s.cells * s.channels) + s.cells * 12 =
        mul-add s.cells (s.channels * h) 12
        ∙ ap (λ (x : ℕ). x + s.cells * 12) (sym (mul_assoc s.cells s.channels h) ∙ mul_comm (s.cells * s.channels) h) in
        omega (arith, apart, high-share, sizes.cells_most)

    -- how large the numbers are
    pub band-most : s.channels * channel_high s ≤ 768
    band-most = mul-le-mul sizes.channels_most high-most

    pub across-most : (slot : ℕ) → slot ≤ s.slots → slot * slot_wide s ≤ 53248
    across-most slot l = let few : slot ≤ 128 = omega (arith, sizes.slots_most) in mul-le-mul few wide-most

    pub down-most : (i channel : ℕ) → i < s.cells → channel < s.channels → i * band_step s + channel * channel_high s ≤ 24948
    down-most i channel l m =
        let step : band_step s ≤ 780 = omega (arith, band-most) in
        let low : i ≤ 31 = omega (arith, sizes.cells_most) in
        let few : channel ≤ 16 = omega (arith, sizes.channels_most) in
        let a : i * band_step s ≤ 31 * 780 = mul-le-mul low step in
        let b : channel * channel_high s ≤ 16 * 48 = mul-le-mul few high-most in
        omega arith

    -- a slot that begins at or before another is it or an earlier one
    pub across-back : (a b : ℕ) → across_of s a ≤ across_of s b → a ≤ b
    across-back a b h = at_least a b (λ l. omega (arith, row_before (slot_wide s) l, wide-some))

    -- and where one ends at or before the end of another
    pub past_back : (a b : ℕ) → a * slot_wide s < b * slot_wide s → a < b
    past_back a b h = at-least' (λ l. omega (arith, back l))
      where
        at-least' : (b ≤ a → ⊥) → a < b
        at-least' n = omega (arith, at_least (a + 1) b (λ l. n (omega arith)))

        back : b ≤ a → b * slot_wide s ≤ a * slot_wide s
        back l = mul-le-mul_right (slot_wide s) l

    -- a row of a band stands where no other does
    pub down-one : (i j channel other : ℕ) → channel < s.channels → other < s.channels → down_of s i channel ≡ down_of s j other → (i ≡ j) × (channel ≡ other)
    down-one i j channel other l m e =
        let p = same_place (band_step s) i j (channel * channel_high s) (other * channel_high s)
        (omega (arith, row_before (channel_high s) l)) (omega (arith, row_before (channel_high s) m)) (omega (arith, e)) in
        (p.0, (same_place (channel_high s) channel other 0 0 high-some high-some (omega (arith, p.1))).0)
