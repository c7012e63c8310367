-- `quoting::put_name` meets its contract: a case for each way out. Assumes nothing.
use mathlib.Core.Path.{sym, ◌∙◌}
use native.Mathlib.Omega.{arith}
use Rattle.phrases.proofs.Put.{put_of}
use Rattle.quoting.specs.Names.{quoted_name}
use Rattle.quoting.proofs.put_name.Goals as goal

pub returns-then-has_break : goal.returns-then-has_break
unfolding quoted_name
returns-then-has_break c = rw (sym c.has_break.ensures ∙ c.if-has_break.true) c.put_quoted.ensures

pub returns : goal.returns
unfolding quoted_name
returns c = rw (sym c.has_break.ensures ∙ c.if-has_break.false)
    (put_of _ c.put_text.ensures.stored c.put_text.ensures.next (omega (arith, c.put_text.ensures.next)))
