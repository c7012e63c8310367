-- `wordtable::walk` meets its contract: a search over the runs of equal words: what is left gives the answer, and what is passed is counted. Assumes nothing.
use mathlib.Core.Path.{◌≡◌, refl, sym, ap, ◌∙◌}
use mathlib.Core.Bool.{true, false, not}
use Prim.Native.Nat.{◌≤◌, ◌<◌}
use native.Mathlib.Omega.{arith}
use lib.ListN.{get_or}
use lib.Dec.{eqb}
use borrow.Author.Tests.{eq-eqb, ne_eqb}
use Rattle.laws.proofs.Search.{found, ended}
use Rattle.wordtable.specs.Tally.{clashing_word}
use Rattle.wordtable.proofs.Runs.{run-least, run-most, run-passed, run_room, run-counted}
use Rattle.wordtable.proofs.walk.Goals as goal

pub loop-p-init : goal.loop-p-init
loop-p-init c = (omega arith, refl, c.requires.counted_to)

pub overflow_sub-times : goal.overflow_sub-times
overflow_sub-times c =
    let further : c.loop-p.p < c.run_end-to.result = run-least c.args.words.now c.loop-p.p c.args.n c.run_end-to.result c.loop-p-test.true
    c.run_end-to.ensures in
    omega (arith, further)

pub overflow_cast-times : goal.overflow_cast-times
overflow_cast-times c =
    let within : c.run_end-to.result ≤ c.args.n = run-most c.args.words.now c.loop-p.p c.args.n c.run_end-to.result c.loop-p-test.true
    c.run_end-to.ensures in
    omega (arith, within, c.requires.cells_bound)

pub tally-met-requires : goal.tally-met-requires
tally-met-requires c = let l = c.loop-p in record {
  cells_bound = c.requires.cells_bound.0;
  room = run_room c.args.words.now l.p c.args.n c.run_end-to.result c.loop-p-test.true c.run_end-to.ensures c.args.cells l.counts
      l.invariant.2 c.requires.cells_bound.1;
}

pub returns-then-met-ne0 : goal.returns-then-met-ne0
returns-then-met-ne0 c = let l = c.loop-p in
    let hit : not (eqb c.tally-met.result 0) ≡ true = ap not (ne_eqb c.tally-met.result 0 (λ q. omega (arith, c.if-met-ne0.true))) in record {
      lowest = found (λ k. clashing_word c.args.clash.now c.args.cells (get_or c.args.words.now k 0)) l.p c.args.n l.invariant.1
          c.loop-p-test.true
          (sym c.tally-met.ensures.met ∙ hit);
      counted = λ over. absurd (omega (arith, c.loop-p-test.true));
    }

pub loop-p-smaller : goal.loop-p-smaller
loop-p-smaller c =
    let further : c.loop-p.p < c.run_end-to.result = run-least c.args.words.now c.loop-p.p c.args.n c.run_end-to.result c.loop-p-test.true
    c.run_end-to.ensures in
    let within : c.run_end-to.result ≤ c.args.n = run-most c.args.words.now c.loop-p.p c.args.n c.run_end-to.result c.loop-p-test.true
    c.run_end-to.ensures in
    omega (arith, further, within)

pub loop-p-preserved : goal.loop-p-preserved
loop-p-preserved c =
    let within : c.run_end-to.result ≤ c.args.n = run-most c.args.words.now c.loop-p.p c.args.n c.run_end-to.result c.loop-p-test.true
    c.run_end-to.ensures in
    let l = c.loop-p in
    let none : not (eqb c.tally-met.result 0) ≡ false = ap not (eq-eqb c.tally-met.result 0 (omega (arith, c.if-met-ne0.false))) in (
      within,
      run-passed c.args.words.now l.p c.args.n c.run_end-to.result c.loop-p-test.true c.run_end-to.ensures
          (clashing_word c.args.clash.now c.args.cells) l.invariant.1 (sym c.tally-met.ensures.met ∙ none),
      run-counted c.args.words.now l.p c.args.n c.run_end-to.result c.loop-p-test.true c.run_end-to.ensures c.args.cells
          l.counts c.tally-met.new.counts l.invariant.2 c.tally-met.ensures.counted,
    )

pub returns : goal.returns
returns c = let l = c.loop-p in
    let all : l.p ≡ c.args.n = omega (arith, c.loop-p-test.false, l.invariant.0) in record {
      lowest = ended
          (λ k. clashing_word c.args.clash.now c.args.cells (get_or c.args.words.now k 0)) l.p c.args.n l.invariant.1 c.loop-p-test.false;
      counted = λ over. rw
          all at l.invariant.2;
    }
