-- `whytext::put_opening` meets its contract: the three parts stand one after the other. Assumes nothing.
use native.Mathlib.Omega.{arith}
use Rattle.phrases.proofs.Put.{put_both, put-wide}
use Rattle.whytext.proofs.put_opening.Goals as goal

pub returns : goal.returns
returns c = record {
  text = put-wide 61700 (omega arith) (put_both _ _ c.put_why-first.ensures.text
      (put_both _ _ c.put_anew-second.ensures c.put_rule.ensures));
  table = c.put_why-first.ensures.table;
}
