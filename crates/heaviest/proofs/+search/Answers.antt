-- `heaviest::search` meets its contract. The measure is the number of cells that are not decided yet. Assumes nothing.
use native.Mathlib.Omega.{arith}
use Rattle.heaviest.proofs.Steps.{is_cut, is_leaf, is-worse, is-both, top_in, without, with}
use Rattle.heaviest.proofs.+search.Goals as goal

pub returns-then-worth-top-clause-set : goal.returns-then-worth-top-clause-set
returns-then-worth-top-clause-set t c = is-worse c.requires c.if-left-eq0.true (omega (arith, c.if-worth-top.true))

pub returns-then-left-eq0-clause-set : goal.returns-then-left-eq0-clause-set
returns-then-left-eq0-clause-set t c = is_leaf c.requires c.if-left-eq0.true (omega (arith, c.if-worth-top.false))

pub returns-then-worth-bound-clause-set : goal.returns-then-worth-bound-clause-set
returns-then-worth-bound-clause-set t c = is_cut c.requires _ c.bound.ensures.bounds (omega (arith, c.if-worth-bound.true))

pub search-first-requires : goal.search-first-requires
search-first-requires t c =
    let top = c.highest-j in (
      omega (arith, c.decreases, top_in c.requires top.result top.ensures.1 top.ensures.2),
      rw c.less-rest.ensures (without c.requires top.result top.ensures.1 top.ensures.2 _ _ c.requires.best_is),
    )

pub search-requires : goal.search-requires
search-requires t c =
    let top = c.highest-j in
    let own = c.load_at-v in
    let first = c.search-first in (
      omega (arith, c.decreases, top_in c.requires top.result top.ensures.1 top.ensures.2),
      rw (c.more-next.ensures, c.near-close.ensures, c.less-rest.ensures)
          (with c.requires top.result top.ensures.1 top.ensures.2 own.result _ first.result.set first.result.worth
          own.ensures.0 own.ensures.1 (omega arith) first.ensures.worth),
    )

pub returns-clause-set : goal.returns-clause-set
returns-clause-set t c =
    let top = c.highest-j in
    let first = c.search-first in
    is-both c.requires top.result top.ensures.1 top.ensures.2 first.result.set _ first.ensures.set (rw c.more-next.ensures at c.search.ensures.set)
