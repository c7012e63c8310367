-- `places::put_place` meets its contract: the cells and the marks are put one after the other. Assumes nothing.
use native.Mathlib.Omega.{arith}
use Rattle.phrases.proofs.Put.{put_both, put-wide}
use Rattle.places.specs.Places.{place_said}
use Rattle.places.proofs.put_place.Goals as goal

pub returns : goal.returns
unfolding place_said
returns c = let marked = rw c.clash_mark.ensures at c.put-second.ensures in
    let ended = rw c.end_mark.ensures at c.put.ensures in
    put-wide 156 (omega arith) (put_both _ _ c.put_cells-first.ensures (put_both _ _ marked ended))
