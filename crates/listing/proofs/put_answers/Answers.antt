-- `listing::put_answers` meets its contract: the four lines are put one after the other. Assumes nothing.
use Rattle.phrases.proofs.Put.{put_both}
use Rattle.listing.proofs.put_answers.Goals as goal

pub returns : goal.returns
returns c = put_both _ _ (rw c.site_line.ensures at c.put_line-chain.ensures)
    (put_both _ _ (rw (c.chain_line.ensures, c.chain.ensures) at c.put_line-load.ensures)
    (put_both _ _ (rw (c.load_line.ensures, c.load_test.ensures) at c.put_line-plan.ensures)
    (rw c.plan_line.ensures at c.put_line.ensures)))
