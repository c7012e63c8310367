-- `say_audit::remark_phrase` meets its contract: a case for each way out. Assumes nothing.
use Rattle.say_audit.proofs.remark_phrase.Goals as goal

pub returns-then-unseen : goal.returns-then-unseen
returns-then-unseen c = rw c.if-unseen.true

pub returns : goal.returns
returns c = rw c.if-unseen.false
