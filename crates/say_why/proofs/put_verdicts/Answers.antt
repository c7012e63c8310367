-- `say_why::put_verdicts` meets its contract: the four lines, one after the other. Assumes nothing.
use Rattle.phrases.proofs.Put.{put_both, put-none}
use Rattle.say_why.proofs.put_verdicts.Goals as goal

pub returns : goal.returns
returns c = let k = c.in_class-class.ensures in
    let e = c.chain-judge.ensures in
    put_both _ _ (rw (c.chain_phrase.ensures, e) at c.put-second.ensures)
    (put_both _ _ (rw (c.nested_phrase.ensures, e, k) at c.put-third.ensures)
    (put_both _ _ (rw (c.load_phrase.ensures, k, c.load_test-test.ensures) at c.put-fourth.ensures)
    (put_both _ _ (rw c.plan_phrase.ensures at c.put.ensures) (put-none _ _ 0))))
