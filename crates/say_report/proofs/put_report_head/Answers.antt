-- `say_report::put_report_head` meets its contract: one part after the other; there is room for each. Assumes nothing.
use native.Mathlib.Omega.{arith}
use Rattle.phrases.proofs.Put.{put_both, put-wide}
use Rattle.say_report.proofs.put_report_head.Goals as goal

pub returns : goal.returns
returns c = put-wide _ (omega arith) (put_both _ _ c.put_title-begun.ensures (put_both _ _ c.put_escaped-next.ensures c.put_size.ensures))
