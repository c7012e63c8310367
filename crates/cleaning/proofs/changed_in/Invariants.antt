-- `cleaning::changed_in` meets its contract: what is left of the sheet, noted on from here, gives the answer. Assumes nothing.
use Rattle.std.specs.Prelude.{◌≡◌, ◌+◌, ◌≤◌, drop}
use Rattle.cleaning.specs.Clean.{separator_in, first_spot, unchanged, begins, changes_from}
use Rattle.cleaning.proofs.changed_in.Given as goal

abbrev pub invariant-loop-byte : goal.invariant-loop-byte
invariant-loop-byte l = (l.so_far.times ≤ l.byte-index) × (l.line ≤ l.byte-index + 1)
    × (changes_from l.kind l.sep l.spot l.line l.so_far (drop l.byte-index l.byte-items)
    ≡ changes_from l.kind (separator_in l.s) first_spot 1 unchanged (drop (begins l.s) l.s))
