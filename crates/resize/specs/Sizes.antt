-- The site with other slots or channels. "`slots T`, `channels F`, .. each with document 01's refusals." What is blocked stays the same slots and channels.
-- Slots, channels and positions are counted from 0 here.
use Rattle.std.specs.Prelude.{ℕ, ◌+◌, ◌*◌, ◌/◌, ◌%◌, Bool, not, ◌&&◌, List, ltb, Result, Ok, Err}
use Rattle.std.specs.Result.{result_and}
use Rattle.laws.specs.Choice.{pick}
use Rattle.laws.specs.Search.{first}
use Rattle.positions.specs.Blocked.{most_positions, blocked_at, set_of}
use Rattle.site.specs.Record.{site_of, size_ok, fault_of}
use Rattle.site.specs.Edit.{answered}
use Rattle.site.specs.declared.Site.{Site}
use Rattle.site.specs.declared.Edited.{Edited}
use Rattle.site.specs.declared.Fault.{Fault}
use Rattle.site.specs.declared.Fault.TheVariants.{Size, Blocked}

-- a slot and a channel of a site with so many slots and channels
unfoldable pub pair_in : ℕ → ℕ → ℕ → ℕ → Bool
pair_in slots channels slot channel = ltb slot slots && ltb channel channels

-- "Slot t and channel f (from 1) have position (t-1)F + (f-1)": a slot and a channel of the site that are blocked
unfoldable pub pair_blocked : List ℕ → ℕ → ℕ → ℕ → ℕ → Bool
pair_blocked set slots channels slot channel = pair_in slots channels slot channel && blocked_at set (slot * channels + channel)

-- the same where there are `to` channels: position k is then the slot k / to and the channel k % to
abbrev pub moved_at : List ℕ → ℕ → ℕ → ℕ → ℕ → Bool
moved_at set slots channels to k = pair_blocked set slots channels (k / to) (k % to)

-- position k of a site with `from` channels: blocked, and gone with these slots and channels
unfoldable pub gone_at : List ℕ → ℕ → ℕ → ℕ → ℕ → Bool
gone_at set from slots channels k = blocked_at set k && not (pair_in slots channels (k / from) (k % from))

-- the lowest such position; 2,048 where there is none
unfoldable pub first_gone : List ℕ → ℕ → ℕ → ℕ → ℕ
first_gone set from slots channels = first (gone_at set from slots channels) 0 most_positions

-- the record's faults, then 1, then 20 "with the lowest such position as the site has it before the edit"
unfoldable pub sizes_fault : Site → ℕ → ℕ → Result Unit Fault
sizes_fault s slots channels = let gone = first_gone s.blocked s.channels slots channels in
    result_and (fault_of s) (pick (size_ok s.cells slots channels) (pick (ltb gone most_positions) (Err (Blocked gone)) (Ok tt)) (Err Size))

-- the site with these slots and channels, and the same slots and channels blocked
abbrev pub with_sizes : Site → ℕ → ℕ → Site
with_sizes s slots channels =
    site_of s.cells slots channels s.loads s.reach (set_of (moved_at s.blocked s.slots s.channels channels)) s.rule

unfoldable pub sized_of : Site → ℕ → ℕ → Edited
sized_of s slots channels = answered (sizes_fault s slots channels) (with_sizes s slots channels) s

-- "`slots T`"
abbrev pub set_slots_of : Site → ℕ → Edited
set_slots_of s slots = sized_of s slots s.channels

-- "`channels F`"
abbrev pub set_channels_of : Site → ℕ → Edited
set_channels_of s channels = sized_of s s.slots channels
