-- `say_diff::diff_phrase` meets its contract: an accepted record has the sizes that the count asks. Assumes nothing.
use mathlib.Core.Path.{sym, ◌∙◌}
use Rattle.site.proofs.Faults.{fine-sized, few-positions, few_bytes}
use Rattle.say_diff.proofs.diff_phrase.Goals as goal

pub change_count-number-requires : goal.change_count-number-requires
change_count-number-requires c =
    let z = fine-sized c.args.site (sym c.accepted.ensures ∙ c.in-Ok.is) in
    (few-positions z, z.cells_most, few_bytes z)
