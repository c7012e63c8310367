-- `say_audit::put_audited` meets its contract: sizes, rule and form, then what is found, then what it takes. Assumes nothing.
use Rattle.phrases.proofs.Put.{put_both}
use Rattle.say_audit.proofs.put_audited.Goals as goal

pub returns : goal.returns
returns c = put_both _ _ (rw c.form_phrase.ensures at c.put-next.ensures)
    (put_both _ _ c.put_last-next.ensures (rw c.takes_line.ensures at c.put.ensures))
