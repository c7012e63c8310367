-- `heaviest::dive` meets its contract: what it gives back was met on the way. The measure is the number of cells that are not decided yet. Assumes nothing.
use mathlib.Core.Path.{◌∙◌}
use mathlib.Core.Logic.{inl, inr, ⊎_elim}
use native.Mathlib.Omega.{arith}
use Rattle.heaviest.proofs.Steps.{top_in, in-part, without, with}
use Rattle.heaviest.proofs.+dive.Goals as goal

pub dive-first-requires : goal.dive-first-requires
dive-first-requires t c =
    let ready = c.requires.search_ready in
    let top = c.highest-j in
    let own = c.load_at-v in (
      omega (arith, c.decreases, top_in ready top.result top.ensures.1 top.ensures.2),
      (
        rw (c.more-next.ensures, c.near-close.ensures, c.less-rest.ensures)
            (with ready top.result top.ensures.1 top.ensures.2 own.result _ _ _ own.ensures.0 own.ensures.1 (omega arith)
            ready.best_is),
        c.requires.set_value,
      ),
    )

pub dive-requires : goal.dive-requires
dive-requires t c =
    let ready = c.requires.search_ready in
    let top = c.highest-j in (
      omega (arith, c.decreases, top_in ready top.result top.ensures.1 top.ensures.2),
      (
        rw c.less-rest.ensures (without ready top.result top.ensures.1 top.ensures.2 _ _ c.dive-first.ensures.worth_is),
        c.dive-first.ensures.close,
      ),
    )

pub returns : goal.returns
returns t c =
    let ready = c.requires.search_ready in
    let top = c.highest-j in
    let half = in-part ready top.result top.ensures.1 top.ensures.2 in
    let first = c.dive-first in
    let next = c.more-next.ensures in record {
      close = c.dive.ensures.close;
      worth_is = c.dive.ensures.worth_is;
      place =
          ⊎_elim
          (λ h. inl (omega arith))
          (λ h. ⊎_elim (λ g. inl (omega arith)) (λ g. inr (h ∙ g)) first.ensures.place)
          c.dive.ensures.place;
    }
