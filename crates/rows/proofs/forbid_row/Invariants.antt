-- `rows::forbid_row` meets its contract. At each head of the loop the table is the one handed in with the first p positions of row i marked
-- (`half`): before `start` and from `end` on there is nothing to mark. Assumes nothing.
use Rattle.std.specs.Prelude.{◌≡◌}
use Rattle.rows.proofs.Forbid.{half}
use Rattle.rows.proofs.forbid_row.Given as goal

abbrev pub invariant-loop-p : goal.invariant-loop-p
invariant-loop-p l = l.table ≡ half l.n l.j l.i l.p l.initial.table
