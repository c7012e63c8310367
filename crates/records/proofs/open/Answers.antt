-- `records::open` meets its contract: at each return the tests say which case of `open_at` holds. Assumes nothing.
use native.Mathlib.Omega.{arith}
use mathlib.Core.Path.{sym, ◌∙◌}
use Rattle.records.proofs.Laws.{length-least, open-four, open-kind, open-length, open-end, open-body}
use Rattle.records.proofs.open.Goals as goal

pub returns-then-s-lt4 : goal.returns-then-s-lt4
returns-then-s-lt4 c = rw c.refuse.ensures (open-four _ _ _ _ (omega arith))

pub returns-then-s-at : goal.returns-then-s-at
returns-then-s-at c = rw c.refuse-then-s-at.ensures (open-four _ _ _ _ (omega arith))

pub returns-then-k-kind : goal.returns-then-k-kind
returns-then-k-kind c =
    rw c.refuse-then-k-kind.ensures
    (open-kind _ _ _ _ _ _ (omega arith) c.two_bytes-n.ensures c.two_bytes-k.ensures c.if-k-kind.true)

pub returns-then-not-length_ok : goal.returns-then-not-length_ok
returns-then-not-length_ok c =
    rw c.refuse-then-not-length_ok.ensures
    (open-length _ _ _ _ _ _ (omega arith) c.two_bytes-n.ensures c.two_bytes-k.ensures c.if-k-kind.false
    (sym c.length_ok.ensures ∙ c.if-not-length_ok.true))

pub returns-then-s-at-2 : goal.returns-then-s-at-2
returns-then-s-at-2 c =
    rw c.refuse-then-s-at-2.ensures
    (open-end _ _ _ _ _ _ (omega arith) c.two_bytes-n.ensures c.two_bytes-k.ensures c.if-k-kind.false
    (sym c.length_ok.ensures ∙ c.if-not-length_ok.false)
    (omega arith))

pub overflow_sub-result : goal.overflow_sub-result
overflow_sub-result c = length-least _ _ (sym c.length_ok.ensures ∙ c.if-not-length_ok.false)

pub returns : goal.returns
returns c =
    open-body _ _ _ _ _ _ (omega arith) c.two_bytes-n.ensures c.two_bytes-k.ensures c.if-k-kind.false
    (sym c.length_ok.ensures ∙ c.if-not-length_ok.false)
    (omega arith)
