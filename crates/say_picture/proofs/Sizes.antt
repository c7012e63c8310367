-- How high a picture is: some, and no more than a page. Assumes nothing.
use Prim.Native.Nat.{◌≤◌}
use mathlib.Core.Bool.{Bool, true, false}
use native.Mathlib.Omega.{arith}
use lib.Dec.{ltb}
use Rattle.laws.specs.Choice.{pick}
use Rattle.site.specs.declared.Site.{Site}
use Rattle.site.proofs.Faults.{Sized}
use Rattle.drawing.specs.Slots.{every_slot}
use Rattle.drawing.specs.Picture.{tall_of}
use Rattle.drawing.proofs.Places.{bands-most}

module _ (s : Site) where
  pub every-most : every_slot s ≤ 8
  every-most = go (ltb 32 s.slots)
    where
      go : (t : Bool) → pick t 8 1 ≤ 8
      go true = omega arith
      go false = omega arith

  pub tall-least : 80 ≤ tall_of s
  unfolding tall_of
  tall-least = omega arith

  -- "on A4": a page less a margin of 1 cm is 277 mm high
  pub tall-most : Sized s → tall_of s ≤ 276
  unfolding tall_of
  tall-most sizes = omega (arith, bands-most s sizes)
