-- An edit that is done gives an accepted site: each is an edit of crate `site` or `resize`, which has the law. Assumes nothing.
use mathlib.Core.Path.{◌≡◌}
use Rattle.positions.specs.Blocked.{empty_set}
use Rattle.site.specs.Record.{fault_of}
use Rattle.site.specs.declared.Site.{Site}
use Rattle.std.specs.Prelude.{Ok}
use Rattle.site.proofs.Edits.{set-load-fine, set-reach-fine, clear-reach-fine}
use Rattle.resize.proofs.Laws.{slots-fine, channels-fine, rule-fine, blocked-fine}
use Rattle.editlist.specs.Made.{edited_by}
use Rattle.editlist.specs.declared.Edit.{Edit}
use Rattle.editlist.specs.declared.Edit.TheVariants.{SetLoad, SetReach, ClearReach, SetRule, SetSlots, SetChannels, Unblock}

pub edit-fine : (s : Site) (e : Edit) → (edited_by s e).answer ≡ Ok tt → fault_of (edited_by s e).site ≡ Ok tt
edit-fine s (SetLoad cell load) = set-load-fine s cell load
edit-fine s (SetReach from to) = set-reach-fine s from to
edit-fine s (ClearReach from to) = clear-reach-fine s from to
edit-fine s (SetRule rule) = rule-fine s rule
edit-fine s (SetSlots slots) = slots-fine s slots
edit-fine s (SetChannels channels) = channels-fine s channels
edit-fine s Unblock = blocked-fine s empty_set
