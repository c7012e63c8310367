-- For any arguments one answer and one content of what is lent meet the contract, and no other, in crate `resize`: by its equalities alone.
-- Made by tools/surface from the source. Assumes nothing.
use Rattle.std.specs.Prelude.{List, refl, ℕ, ◌≡◌}
use Rattle.contracts.specs.ResizeSays.{SetBlocked, SetChannels, SetRule, SetSlots}
use Rattle.resize.specs.Others.{set_blocked_of, set_rule_of}
use Rattle.resize.specs.Sizes.{set_channels_of, set_slots_of}
use Rattle.site.specs.declared.Edited.{Edited}
use Rattle.site.specs.declared.Site.{Site}

-- resize::set_slots
pub set_slots-one : (site : Site) (slots : ℕ)
    → (r : Edited) × (SetSlots site slots r)
    × ((q : Edited) → SetSlots site slots q → (q ≡ r))
set_slots-one site slots = (
  set_slots_of site slots,
  record { answer = refl },
  λ q says. says.answer,
)

-- resize::set_channels
pub set_channels-one : (site : Site) (channels : ℕ)
    → (r : Edited) × (SetChannels site channels r)
    × ((q : Edited) → SetChannels site channels q → (q ≡ r))
set_channels-one site channels = (
  set_channels_of site channels,
  record { answer = refl },
  λ q says. says.answer,
)

-- resize::set_rule
pub set_rule-one : (site : Site) (rule : ℕ)
    → (r : Edited) × (SetRule site rule r)
    × ((q : Edited) → SetRule site rule q → (q ≡ r))
set_rule-one site rule = (
  set_rule_of site rule,
  record { answer = refl },
  λ q says. says.answer,
)

-- resize::set_blocked
pub set_blocked-one : (site : Site) (blocked : List ℕ)
    → (r : Edited) × (SetBlocked site blocked r)
    × ((q : Edited) → SetBlocked site blocked q → (q ≡ r))
set_blocked-one site blocked = (
  set_blocked_of site blocked,
  record { answer = refl },
  λ q says. says.answer,
)
