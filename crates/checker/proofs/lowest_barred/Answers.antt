-- `checker::lowest_barred` meets its contract: a search, a block at a time, and then by words: what is left gives the answer. Assumes nothing.
use mathlib.Core.Path.{◌≡◌, refl, sym, ap, ◌∙◌}
use Prim.Native.Nat.{ℕ, ◌+◌, ◌*◌, ◌/◌}
use native.Mathlib.Omega.{arith}
use Rattle.laws.specs.Search.{first}
use Rattle.theory.specs.Verdict.{lowest_barred}
use Rattle.checker.proofs.Barred.{two-test}
use Rattle.checker.proofs.Lowest.{part-found, part-missed}
use Rattle.checker.proofs.lowest_barred.Invariants.{test}
use Rattle.checker.proofs.lowest_barred.Goals.{else-loop-from-test, then-loop-from-test+else-q-lt128+else-blocks-from-gt128}
use Rattle.checker.proofs.lowest_barred.Goals as goal

pub loop-from-init : goal.loop-from-init
unfolding lowest_barred
loop-from-init c = (omega arith, refl, refl)

pub returns-then-q-lt128 : goal.returns-then-q-lt128
returns-then-q-lt128 c = let a = c.args in
    let p = test a.table.now a.n a.blocked.now a.cells in
    let from = c.loop-from.from in
    let block : c.barred_block-q.result ≡ first (λ k. p (from + k)) 0 128 = c.barred_block-q.ensures
    ∙ two-test a.cells a.n a.table.now a.blocked.now from (omega (arith, c.loop-from.invariant.1)) in
    part-found p from 128 a.n (omega arith) c.loop-from.invariant.2 block (omega (arith, c.if-q-lt128.true))

pub loop-from-preserved : goal.loop-from-preserved
loop-from-preserved c = let a = c.args in
    let p = test a.table.now a.n a.blocked.now a.cells in
    let from = c.loop-from.from in
    let block : c.barred_block-q.result ≡ first (λ k. p (from + k)) 0 128 = c.barred_block-q.ensures
    ∙ two-test a.cells a.n a.table.now a.blocked.now from (omega (arith, c.loop-from.invariant.1)) in
    let none = part-missed p from 128 a.n (omega arith) c.loop-from.invariant.2 block (omega (arith, c.if-q-lt128.false)) in
    (omega arith, omega (arith, c.loop-from.invariant.1), none)

pub returns : goal.returns
returns c = let a = c.args in
    let p = test a.table.now a.n a.blocked.now a.cells in
    let from = c.loop-from.from in
    elim c.loop-from-test.branch [
      | else-loop-from-test w ↦
          let all : a.n / 128 * 128 ≡ from = omega (arith, w.loop-from-test.false, c.loop-from.invariant.0) in
          c.barred_by_words.ensures ∙ ap (λ (k : ℕ). first p k a.n) all ∙ sym c.loop-from.invariant.2
      | then-loop-from-test+else-q-lt128+else-blocks-from-gt128 w ↦
          let all : a.n / 128 * 128 ≡ from + 128 = omega (arith, w, c.loop-from.invariant.1) in
          let block : w.barred_block-q.result ≡ first (λ k. p (from + k)) 0 128 = w.barred_block-q.ensures
          ∙ two-test a.cells a.n a.table.now a.blocked.now from (omega (arith, c.loop-from.invariant.1)) in
          c.barred_by_words.ensures ∙ ap (λ (k : ℕ). first p k a.n) all
          ∙ sym (part-missed p from 128 a.n (omega (arith, all)) c.loop-from.invariant.2 block (omega (arith, w.if-q-lt128.false)))
    ]
