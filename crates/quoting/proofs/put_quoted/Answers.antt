-- `quoting::put_quoted` meets its contract: a quote, the bytes, a quote. Assumes nothing.
use native.Mathlib.Omega.{arith}
use Rattle.phrases.proofs.Put.{put_both, put-wide}
use Rattle.quoting.proofs.put_quoted.Goals as goal

pub returns : goal.returns
returns c = put-wide _ (omega arith) (put_both _ _ c.put_byte-next.ensures (put_both _ _ c.put_doubled-next.ensures c.put_byte.ensures))
