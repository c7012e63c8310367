-- Where things stand in a picture. Its unit is a tenth of a millimetre; it is 1,900 units wide, and at 32 cells by 128 slots by 16 channels as high as an A4
-- page. "Numbers are whole."
use Rattle.std.specs.Prelude.{ℕ, ◌+◌, ◌*◌, ◌/◌, min}
use Rattle.site.specs.declared.Site.{Site}

-- the slot map begins here, across and down
abbrev pub map_left : ℕ
map_left = 150

abbrev pub map_top : ℕ
map_top = 790

-- the bands stand apart
abbrev pub band_gap : ℕ
band_gap = 12

module _ (s : Site) where
  -- how wide a slot is: all of them in 1,664 units, and none wider than 416
  unfoldable pub slot_wide : ℕ
  slot_wide = min 416 (1664 / s.slots)

  -- how high a channel is in a band: all of them, of all cells, in 1,536 units, and none higher than 48
  unfoldable pub channel_high : ℕ
  channel_high = min 48 (1536 / (s.cells * s.channels))

  -- from a band to the next
  abbrev pub band_step : ℕ
  band_step = s.channels * channel_high + band_gap

  -- "a band for each cell, slots across, channels down"
  abbrev pub across_of : ℕ → ℕ
  across_of slot = map_left + slot * slot_wide

  abbrev pub down_of : ℕ → ℕ → ℕ
  down_of cell channel = map_top + (cell * band_step + channel * channel_high)
