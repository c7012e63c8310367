-- The equalities that the contracts of crate `resize` state: r is the answer, and x' what a lent x holds afterwards.
-- Made by tools/surface from the source.
use Rattle.std.specs.Prelude.{List, ℕ, ◌≡◌}
use Rattle.resize.specs.Others.{set_blocked_of, set_rule_of}
use Rattle.resize.specs.Sizes.{set_channels_of, set_slots_of}
use Rattle.site.specs.declared.Edited.{Edited}
use Rattle.site.specs.declared.Site.{Site}

-- resize::set_slots
pub record SetSlots (site : Site) (slots : ℕ) (r : Edited) : Type 0 where
  pub answer : r ≡ set_slots_of site slots

-- resize::set_channels
pub record SetChannels (site : Site) (channels : ℕ) (r : Edited) : Type 0 where
  pub answer : r ≡ set_channels_of site channels

-- resize::set_rule
pub record SetRule (site : Site) (rule : ℕ) (r : Edited) : Type 0 where
  pub answer : r ≡ set_rule_of site rule

-- resize::set_blocked
pub record SetBlocked (site : Site) (blocked : List ℕ) (r : Edited) : Type 0 where
  pub answer : r ≡ set_blocked_of site blocked
