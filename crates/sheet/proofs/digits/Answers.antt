-- `sheet::digits` meets its contract: one digit, and one more for each bound that the number is above. Assumes nothing.
use native.Mathlib.Omega.{arith}
use Rattle.text.proofs.Digits.{digits_sum}
use Rattle.sheet.proofs.digits.Goals as goal

pub returns : goal.returns
returns c = let x = c.args.x in record {
  value = omega (
    arith,
    digits_sum x (omega arith),
    c.over.ensures.value,
    c.over-2.ensures.value,
    c.over-3.ensures.value,
    c.over-4.ensures.value,
  );
  upper_bound = omega (
    arith,
    c.over.ensures.upper_bound,
    c.over-2.ensures.upper_bound,
    c.over-3.ensures.upper_bound,
    c.over-4.ensures.upper_bound,
  );
}
