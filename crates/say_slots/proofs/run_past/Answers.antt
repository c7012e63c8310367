-- `say_slots::run_past` meets its contract: a search: what is left gives the answer. Assumes nothing.
use mathlib.Core.Path.{◌≡◌, refl, sym, ap, ◌∙◌}
use mathlib.Core.Bool.{not}
use native.Mathlib.Omega.{arith}
use Rattle.laws.proofs.Search.{found, missed, ended}
use Rattle.drawing.specs.Slots.{run_past}
use Rattle.say_slots.proofs.Ready.{place_in, place-few}
use Rattle.say_slots.proofs.run_past.Invariants.{test}
use Rattle.say_slots.proofs.run_past.Goals as goal

pub loop-j-init : goal.loop-j-init
unfolding run_past
loop-j-init c = refl

pub overflow_mul-j : goal.overflow_mul-j
overflow_mul-j c = omega (arith, place-few c.args.site.now c.requires.0.sizes c.loop-j.j c.args.channel c.loop-j-test.true c.requires.2)

pub overflow_add-j : goal.overflow_add-j
overflow_add-j c = omega (arith, place-few c.args.site.now c.requires.0.sizes c.loop-j.j c.args.channel c.loop-j-test.true c.requires.2)

pub marked-requires : goal.marked-requires
marked-requires c = (c.requires.0, c.requires.1, place_in c.args.site.now c.requires.0.sizes c.loop-j.j c.args.channel c.loop-j-test.true c.requires.2)

pub returns-then-not-marked : goal.returns-then-not-marked
returns-then-not-marked c = let a = c.args in
    found (test a.site.now a.table.now a.mark a.i a.channel) c.loop-j.j a.site.now.slots c.loop-j.invariant (omega arith)
    (ap not (sym c.marked.ensures ∙ c.if-not-marked.true))

pub loop-j-preserved : goal.loop-j-preserved
loop-j-preserved c = let a = c.args in
    missed (test a.site.now a.table.now a.mark a.i a.channel) c.loop-j.j a.site.now.slots c.loop-j.invariant (omega arith)
    (ap not (sym c.marked.ensures ∙ c.if-not-marked.false))

pub returns : goal.returns
returns c = let a = c.args in
    let all : a.site.now.slots ≡ c.loop-j.j = omega arith in
    all ∙ ended (test a.site.now a.table.now a.mark a.i a.channel) c.loop-j.j a.site.now.slots c.loop-j.invariant (omega arith)
