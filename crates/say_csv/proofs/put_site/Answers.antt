-- `say_csv::put_site` meets its contract: sizes, rule and form, then what is found, then the set, then what it takes. Assumes nothing.
use native.Mathlib.Omega.{arith}
use Rattle.phrases.proofs.Put.{put_both, put-wide}
use Rattle.say_csv.proofs.put_site.Goals as goal

pub returns : goal.returns
returns c = put-wide 14000 (omega arith) (put_both _ _ (rw c.form_phrase.ensures at c.put-next.ensures)
    (put_both _ _ (rw c.found_fields.ensures at c.put-next-2.ensures) (put_both _ _ c.put_set-next.ensures c.put.ensures)))
