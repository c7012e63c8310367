-- `say_listing::put_cell_line` meets its contract: the number, the reservations and the line feed are put one after the other. Assumes nothing.
use native.Mathlib.Omega.{arith}
use Rattle.phrases.proofs.Put.{put_both, put-wide}
use Rattle.say_listing.specs.Lines.{cell_listed}
use Rattle.say_listing.proofs.put_cell_line.Goals as goal

pub returns : goal.returns
unfolding cell_listed
returns c = put-wide 24576 (omega arith) (put_both _ _ c.put_line-first.ensures (put_both _ _ c.put_reservations-last.ensures c.put_line.ensures))
