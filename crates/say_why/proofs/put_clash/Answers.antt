-- `say_why::put_clash` meets its contract: the number, the line before the cells, and the cells. Assumes nothing.
use native.Mathlib.Omega.{arith}
use Rattle.site.proofs.Faults.{fine-sized}
use Rattle.phrases.proofs.Put.{put_both, put-wide, put-long}
use Rattle.say_why.proofs.put_clash.Goals as goal

pub put_cells-requires : goal.put_cells-requires
put_cells-requires c = let few = (fine-sized _ c.requires.site_value.0).cells_most in
    let a = c.put-second.ensures in
    let b = c.put-third.ensures in
    (few, omega (arith, few, put-long a, put-long b, a.follows, a.short, b.follows, b.short, c.requires.at_in_bounds))

pub returns : goal.returns
returns c = put-wide 9400 (omega (arith, (fine-sized _ c.requires.site_value.0).cells_most))
    (put_both _ _ (rw (c.takes_phrase.ensures, c.requires.site_value.1, c.requires.site_value.2) at c.put-second.ensures)
    (put_both _ _ (rw c.set_phrase.ensures at c.put-third.ensures) c.put_cells.ensures))
