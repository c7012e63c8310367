-- `showdesk::list::put_faults` is safe: what is asked of the table is tested before, and the rows are the site's clash rows. Assumes nothing.
use Rattle.std.proofs.Common.{rules, ◌≡◌, true}
use mathlib.Core.Path.{sym, ◌∙◌}
use Rattle.say_faults.specs.Said.{judgeable}
use Rattle.say_faults.proofs.Ready.{ready-fine}
use Rattle.showdesk.proofs.list.put_faults.Goals as goal

pub put_blocked_faults-requires : goal.put_blocked_faults-requires
put_blocked_faults-requires c =
    let judged : let a = c.args in judgeable a.site a.table.now ≡ true = sym c.can_judge.ensures ∙ c.if-not-can_judge.false in
    (search rules, judged, c.clash_rows-clash.ensures.clash (ready-fine c.args.site c.args.table.now judged))

pub put_clash_faults-requires : goal.put_clash_faults-requires
put_clash_faults-requires c =
    let judged : let a = c.args in judgeable a.site a.table.now ≡ true = sym c.can_judge.ensures ∙ c.if-not-can_judge.false in
    (search rules, judged, c.clash_rows-clash.ensures.clash (ready-fine c.args.site c.args.table.now judged))

pub put_last-requires : goal.put_last-requires
put_last-requires c =
    let judged : let a = c.args in judgeable a.site a.table.now ≡ true = sym c.can_judge.ensures ∙ c.if-not-can_judge.false in
    (search rules, judged, c.clash_rows-clash.ensures.clash (ready-fine c.args.site c.args.table.now judged))
