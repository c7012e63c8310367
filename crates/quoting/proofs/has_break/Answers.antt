-- `quoting::has_break` meets its contract: before a byte, it is known of those that stand before it. Assumes nothing.
use Rattle.std.proofs.Common.{refl, sym, ◌∙◌}
use Rattle.quoting.specs.Names.{has_break}
use Rattle.quoting.proofs.Names.{break-more}
use Rattle.quoting.proofs.has_break.Goals as goal

pub loop-byte-init : goal.loop-byte-init
unfolding has_break
loop-byte-init c = refl

pub loop-byte-preserved : goal.loop-byte-preserved
loop-byte-preserved c = let i = c.loop-byte.byte-index in
    c.either-any.ensures ∙ rw (c.is_break.ensures, c.loop-byte.invariant) (sym (break-more c.args.name.now i c.loop-byte-test.true))
