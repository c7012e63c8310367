-- `sitehead::site_head` meets its contract: under four bytes the answer is 8, and else the kind decides which head it is. Assumes nothing.
use mathlib.Core.Path.{sym, ap, ◌∙◌}
use native.Mathlib.Omega.{arith}
use borrow.Author.Tests.{eq-eqb, ne_eqb}
use lib.Dec.{eqb}
use Rattle.sitehead.proofs.Head.{head-short, head-ruled, head_plain}
use Rattle.sitehead.proofs.site_head.Goals as goal

pub returns-then-s-lt4 : goal.returns-then-s-lt4
returns-then-s-lt4 c = rw c.refuse.ensures (sym (head-short _ (omega arith)))

pub returns-then-kind-eq-RULED_KIND : goal.returns-then-kind-eq-RULED_KIND
returns-then-kind-eq-RULED_KIND c = c.ruled_head.ensures ∙ sym
    (head-ruled _ (ap (λ n. eqb n 5) (sym c.two_bytes-kind.ensures) ∙ eq-eqb _ _ c.if-kind-eq-RULED_KIND.true))

pub returns : goal.returns
returns c = c.head_answer.ensures ∙ sym (head_plain _ (ap (λ n. eqb n 5) (sym c.two_bytes-kind.ensures) ∙ ne_eqb _ _ c.if-kind-eq-RULED_KIND.false))
