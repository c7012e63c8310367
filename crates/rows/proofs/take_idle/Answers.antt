-- `rows::take_idle` meets its contract: where nothing is idle, reserving it would change nothing. Assumes nothing.
use mathlib.Core.Path.{◌≡◌, sym, ◌∙◌}
use native.Mathlib.Omega.{arith}
use lib.Dec.{ltb}
use Rattle.rows.proofs.Fill.{none-idle, same-either}
use Rattle.rows.proofs.take_idle.Goals as goal

pub returns-then-count-eq0 : goal.returns-then-count-eq0
returns-then-count-eq0 c = let many = c.count_idle-count in
    let none : 0 ≡ many.result = omega (arith, c.if-count-eq0.true) in
    let idle = none-idle c.args.stretch.now (sym (none ∙ many.ensures)) in record {
      count = none ∙ many.ensures;
      taken = same-either
          (ltb c.args.left 0) c.args.stretch.now _ idle;
    }
