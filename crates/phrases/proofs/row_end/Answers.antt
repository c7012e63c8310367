-- `phrases::row_end` meets its contract. The invariant: what was passed has no bar. Assumes nothing.
use Rattle.std.proofs.Common.{ℕ, List, [], ◌≡◌, ◌++◌, sym, ap, ◌∙◌, arith, length, take, drop}
use mathlib.Core.List.{append-nil}
use borrow.Author.Tests.{eq-eqb, ne_eqb}
use Rattle.phrases.specs.Phrases.{up_to_bar}
use Rattle.phrases.proofs.Rows.{row-stop, row_on, row-all}
use Rattle.phrases.proofs.row_end.Goals as goal

-- nothing of the row is left
ended : (table : List ℕ) (i : ℕ) → up_to_bar table ≡ take i table ++ up_to_bar (drop i table) → up_to_bar (drop i table) ≡ [] → take i table ≡ up_to_bar table
ended table i e n = sym (append-nil (take i table)) ∙ ap (λ (l : List ℕ). take i table ++ l) (sym n) ∙ sym e

pub returns-then-byte-eq124-clause-end : goal.returns-then-byte-eq124-clause-end
returns-then-byte-eq124-clause-end c = let l = c.loop-i in
    ended c.args.table.now l.i l.invariant (row-stop c.args.table.now l.i c.loop-i-test.true (eq-eqb _ _ c.if-byte-eq124.true))

pub loop-i-preserved : goal.loop-i-preserved
loop-i-preserved c = let l = c.loop-i in
    l.invariant ∙ row_on c.args.table.now l.i c.loop-i-test.true (ne_eqb _ _ c.if-byte-eq124.false)

pub returns-clause-end : goal.returns-clause-end
returns-clause-end c = let l = c.loop-i in
    let table = c.args.table.now in
    let e : l.i ≡ length table = omega arith in
    rw (sym e) (ended table l.i l.invariant (row-all table l.i c.loop-i-test.false))
