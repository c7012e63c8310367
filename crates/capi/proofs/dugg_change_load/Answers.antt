-- `capi::dugg_change_load` meets its contract: the answer and the record are the parts of what the change by value gives. Assumes nothing.
use mathlib.Core.Path.{ap}
use Rattle.toldfiles.specs.Files.{told_changed}
use Rattle.toldfiles.specs.declared.EditedSite.{EditedSite}
use Rattle.capi.proofs.dugg_change_load.Goals as goal

pub returns : goal.returns
unfolding told_changed
returns c =
    let e = c.changed_by-e.ensures in
    (ap (λ (d : EditedSite). d.answer) e.0, ap (λ (d : EditedSite). d.site) e.0, e.1)
