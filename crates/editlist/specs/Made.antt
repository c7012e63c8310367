-- What an edit makes of a site: "each with document 01's refusals".
use Rattle.positions.specs.Blocked.{empty_set}
use Rattle.site.specs.Edit.{set_load_of, set_reach_of, clear_reach_of}
use Rattle.site.specs.declared.Site.{Site}
use Rattle.site.specs.declared.Edited.{Edited}
use Rattle.resize.specs.Sizes.{set_slots_of, set_channels_of}
use Rattle.resize.specs.Others.{set_rule_of, set_blocked_of}
use Rattle.editlist.specs.declared.Edit.{Edit}
use Rattle.editlist.specs.declared.Edit.TheVariants.{SetLoad, SetReach, ClearReach, SetRule, SetSlots, SetChannels, Unblock}

abbrev pub edited_by : Site → Edit → Edited
edited_by s (SetLoad cell load) = set_load_of s cell load
edited_by s (SetReach from to) = set_reach_of s from to
edited_by s (ClearReach from to) = clear_reach_of s from to
edited_by s (SetRule rule) = set_rule_of s rule
edited_by s (SetSlots slots) = set_slots_of s slots
edited_by s (SetChannels channels) = set_channels_of s channels
edited_by s Unblock = set_blocked_of s empty_set
