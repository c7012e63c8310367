-- `shortrows::lay_row` meets its contract: what the fours leave is gone on with, one byte at a time. Assumes nothing.
use Rattle.std.specs.Prelude.{◌≡◌}
use Rattle.std.proofs.lemmas.List.Edits.{sets}
use Rattle.laws.specs.Part.{list_of}
use Rattle.shortrows.specs.Short.{mark_in}
use Rattle.shortrows.proofs.lay_row.Given as goal

abbrev pub invariant-loop-p : goal.invariant-loop-p
invariant-loop-p l = l.row ≡ sets l.fn.row 0 (list_of (mark_in l.taken) l.p)
