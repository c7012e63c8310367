-- `say_rule::third_of` meets its contract: a search, whose invariant says that the search that is left gives the answer. Assumes nothing.
use mathlib.Core.Path.{◌≡◌, sym, ◌∙◌}
use native.Mathlib.Omega.{arith}
use Rattle.laws.proofs.Search.{found, missed, ended}
use Rattle.site.specs.Reach.{reaches}
use Rattle.say_rule.specs.Said.{third_of}
use Rattle.say_rule.proofs.third_of.Goals as goal

pub returns-then-in_both : goal.returns-then-in_both
unfolding third_of reaches
returns-then-in_both c = found _ c.loop-c.c 32 c.loop-c.invariant (omega arith) (sym c.in_both.ensures ∙ c.if-in_both.true)

pub loop-c-preserved : goal.loop-c-preserved
loop-c-preserved c = missed _ c.loop-c.c 32 c.loop-c.invariant (omega arith) (sym c.in_both.ensures ∙ c.if-in_both.false)

pub returns : goal.returns
unfolding third_of reaches
returns c = let all : 32 ≡ c.loop-c.c = omega arith in
    all ∙ ended _ c.loop-c.c 32 c.loop-c.invariant (omega arith)
