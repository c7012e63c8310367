-- `say_tally::put_totals` meets its contract: the sites, those refused, the plans, and those that a one-way reading would pass. Assumes nothing.
use Rattle.phrases.proofs.Put.{put_both}
use Rattle.say_tally.proofs.put_totals.Goals as goal

pub returns : goal.returns
returns c = put_both _ _ (rw c.sites_phrase.ensures at c.put-next.ensures)
    (put_both _ _ (rw c.marks_with.ensures.0 at c.put-next-2.ensures)
    (put_both _ _ (rw c.plans_phrase.ensures at c.put-next-3.ensures) (rw c.marks_with-2.ensures.0 at c.put.ensures)))
