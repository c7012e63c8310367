-- `say_find::put_last_line` meets its contract: the last word, and the end of the line. Assumes nothing.
use native.Mathlib.Omega.{arith}
use Rattle.speech.specs.Speech.{bytes}
use Rattle.phrases.proofs.Put.{put_both, put_of, put-wide}
use Rattle.say_find.proofs.put_last_line.Goals as goal

pub returns : goal.returns
returns c = put-wide 3000 (omega arith) (put_both _ (bytes "\n") c.put_last-next.ensures
    (put_of {text = bytes "\n"} 1 c.put_text.ensures.stored c.put_text.ensures.next (omega (arith, c.put_text.ensures.next))))
