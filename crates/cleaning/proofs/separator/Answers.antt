-- `cleaning::separator` meets its contract: what is left of the sheet gives the answer. Assumes nothing.
use Rattle.std.proofs.Common.{refl, sym, ◌∙◌}
use Rattle.cleaning.proofs.Kept.{sep-end, sep-found, sep-next}
use Rattle.cleaning.proofs.separator.Goals as goal

pub loop-byte-init : goal.loop-byte-init
loop-byte-init c = refl

pub returns-then-is_separator : goal.returns-then-is_separator
returns-then-is_separator c = let l = c.loop-byte in
    sym (l.invariant ∙ sep-found c.args.s.now l.byte-index c.loop-byte-test.true (sym c.is_separator.ensures ∙ c.if-is_separator.true))

pub loop-byte-preserved : goal.loop-byte-preserved
loop-byte-preserved c = let l = c.loop-byte in
    l.invariant ∙ sep-next c.args.s.now l.byte-index c.loop-byte-test.true (sym c.is_separator.ensures ∙ c.if-is_separator.false)

pub returns : goal.returns
returns c = sym (c.loop-byte.invariant ∙ sep-end c.args.s.now c.loop-byte.byte-index c.loop-byte-test.false)
