-- `lister::main` is safe: what `listed_head` ensures of its answer keeps the rows within the table. Assumes nothing.
use native.Mathlib.Omega.{arith}
use Rattle.lister.proofs.main.Goals as goal

pub print_rows-all-requires : goal.print_rows-all-requires
print_rows-all-requires c = let f = c.listed_head-rest.ensures.fits in record {
  rows_bound = (f.few, f.narrow, omega (arith, f.within), f.some);
  in_bounds = omega arith;
}
