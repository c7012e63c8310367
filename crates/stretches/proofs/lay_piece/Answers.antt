-- `stretches::lay_piece` meets its contract: where no position is blocked, all are open. Assumes nothing.
use mathlib.Core.Path.{◌≡◌, sym, ◌∙◌}
use mathlib.Core.Bool.{false}
use native.Mathlib.Omega.{arith}
use borrow.Author.Tests.{not-true}
use Rattle.positions.specs.Blocked.{most_positions, any_in}
use Rattle.stretches.proofs.Open.{free_all, laid-all}
use Rattle.stretches.proofs.lay_piece.Goals as goal

pub returns-then-none : goal.returns-then-none
returns-then-none c = let a = c.args in
    let none : any_in a.blocked.now most_positions ≡ false = not-true _
    (sym c.requires.none_value ∙ c.if-none.true) in record {
      fits = omega arith;
      free = free_all a.blocked.now none a.from a.run (omega arith);
      words = laid-all a.blocked.now none a.from a.run (omega arith) a.word a.words.now _ c.lay.ensures;
    }

pub returns : goal.returns
returns c = record { fits = c.lay_open.ensures.fits; free = c.lay_open.ensures.free; words = c.lay_open.ensures.words }
