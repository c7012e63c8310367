-- `places::place_at` meets its contract: the clashes of a position are those of its word. Assumes nothing.
use native.Mathlib.Omega.{arith}
use Rattle.say_faults.proofs.Ready.{ready-sizes, ready-few}
use Rattle.places.proofs.Ready.{ready-size, place_is}
use Rattle.places.proofs.place_at.Goals as goal

pub overflow_mul-n : goal.overflow_mul-n
overflow_mul-n c = omega (arith, ready-few c.args.site c.args.table.now c.requires.0)

pub word_at-word-requires : goal.word_at-word-requires
word_at-word-requires c = let t = c.args.table.now in
    ((ready-sizes c.args.site t c.requires.0).cells_most, ready-size c.args.site t c.requires.0, c.requires.2)

pub first_in-requires : goal.first_in-requires
first_in-requires c = (ready-sizes c.args.site c.args.table.now c.requires.0).cells_most

pub is_blocked-barred-requires : goal.is_blocked-barred-requires
is_blocked-barred-requires c = omega (arith, c.requires.2, ready-few c.args.site c.args.table.now c.requires.0)

pub returns : goal.returns
returns c = place_is c.args.site c.args.table.now c.args.clash c.args.k c.requires.1 c.word_at-word.ensures c.first_in.ensures
    c.is_blocked-barred.ensures
