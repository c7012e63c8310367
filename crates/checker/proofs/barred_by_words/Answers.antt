-- `checker::barred_by_words` meets its contract: a search, a word at a time: what is left gives the answer. Assumes nothing.
use Prim.Native.Nat.{◌+◌}
use mathlib.Core.Path.{◌≡◌, ◌∙◌}
use native.Mathlib.Omega.{arith}
use Rattle.laws.specs.Search.{first}
use Rattle.laws.proofs.Search.{ended}
use Rattle.checker.proofs.Barred.{word_test}
use Rattle.checker.proofs.Lowest.{part-found, part-missed}
use Rattle.theory.specs.Greedy.{reserved}
use Rattle.theory.specs.Verdict.{barred_at}
use Rattle.checker.specs.Marks.{bar_net}
use Rattle.checker.proofs.barred_by_words.Goals as goal

pub returns-then-p-m : goal.returns-then-p-m
returns-then-p-m c =
    let a = c.args in
    let p = barred_at (bar_net a.cells a.n a.blocked.now) (reserved a.n a.table.now) in
    let at = c.loop-at.at in
    let m = c.min-m.result in
    let part : c.barred_in-p.result ≡ first (λ k. p (at + k)) 0 m = c.barred_in-p.ensures
    ∙ word_test a.cells a.n a.table.now a.blocked.now at m c.loop-at.invariant.1 (omega arith) in
    part-found p at m a.n (omega arith) c.loop-at.invariant.2 part c.if-p-m.true

pub loop-at-preserved : goal.loop-at-preserved
loop-at-preserved c =
    let a = c.args in
    let p = barred_at (bar_net a.cells a.n a.blocked.now) (reserved a.n a.table.now) in
    let at = c.loop-at.at in
    let m = c.min-m.result in
    let part : c.barred_in-p.result ≡ first (λ k. p (at + k)) 0 m = c.barred_in-p.ensures
    ∙ word_test a.cells a.n a.table.now a.blocked.now at m c.loop-at.invariant.1 (omega arith) in
    let whole : m ≡ 64 = omega arith in
    (omega arith, omega (arith, c.loop-at.invariant.1), rw whole at (part-missed p at m a.n (omega arith) c.loop-at.invariant.2 part c.if-p-m.false))

pub returns-else-p-m : goal.returns-else-p-m
returns-else-p-m c =
    let a = c.args in
    let p = barred_at (bar_net a.cells a.n a.blocked.now) (reserved a.n a.table.now) in
    let at = c.loop-at.at in
    let m = c.min-m.result in
    let part : c.barred_in-p.result ≡ first (λ k. p (at + k)) 0 m = c.barred_in-p.ensures
    ∙ word_test a.cells a.n a.table.now a.blocked.now at m c.loop-at.invariant.1 (omega arith) in
    let all : at + m ≡ a.n = omega arith in
    rw all at (ended p (at + m) a.n (part-missed p at m a.n (omega arith) c.loop-at.invariant.2 part c.if-p-m.false) (omega arith))

pub returns : goal.returns
returns c = let a = c.args in
    let all : c.loop-at.at ≡ a.n = omega arith in
    rw all at
    (ended (barred_at (bar_net a.cells a.n a.blocked.now) (reserved a.n a.table.now)) c.loop-at.at a.n c.loop-at.invariant.2 (omega arith))
