-- `lines::read_digits` meets its contract: what is left of the input, scanned on from here, gives the number, and the digits so far are those that the writer
-- gives for it, since the first is not 0. Assumes nothing.
use Prim.Native.Nat.{◌≤◌, ◌<◌}
use mathlib.Core.Bool.{true}
use mathlib.Core.Path.{◌≡◌, sym, ◌∙◌}
use lib.ListN.{length, get_or}
use native.Mathlib.Omega.{arith}
use Rattle.lines.specs.Content.{more}
use Rattle.lines.proofs.Numbers.{more-is, scan-end, scan-stop, scan_step}
use Rattle.lines.proofs.Digits.{digits-begin, digits-on, scan-begin}
use Rattle.lines.proofs.read_digits.Goals as goal

pub loop-next-init : goal.loop-next-init
loop-next-init c = let a = c.args in (
  omega arith,
  omega arith,
  scan-begin a.s.now a.at a.first (omega arith) (omega arith) c.requires.3,
  digits-begin a.s.now a.at a.first (omega arith) (omega arith) c.requires.3,
)

pub returns-then-not-is_digit : goal.returns-then-not-is_digit
returns-then-not-is_digit c = let e = scan-stop c.args.s.now c.loop-next.value c.loop-next.next (omega arith)
    (sym c.is_digit.ensures ∙ c.if-not-is_digit.true) in record { value_value = e ∙ c.loop-next.invariant.2; next_value = c.loop-next.invariant.3 }

pub overflow_sub-value : goal.overflow_sub-value
overflow_sub-value c =
    let digit : more c.loop-next.value (get_or c.args.s.now c.loop-next.next 0) ≡ true = sym c.is_digit.ensures ∙ c.if-not-is_digit.false in
    let taken : let d = get_or c.args.s.now c.loop-next.next 0 in (c.loop-next.value < 10000) × (48 ≤ d) × (d ≤ 57) = more-is _ _ digit in
    omega (arith, taken)

pub loop-next-preserved : goal.loop-next-preserved
loop-next-preserved c =
    let digit : more c.loop-next.value (get_or c.args.s.now c.loop-next.next 0) ≡ true = sym c.is_digit.ensures ∙ c.if-not-is_digit.false in
    let taken : let d = get_or c.args.s.now c.loop-next.next 0 in (c.loop-next.value < 10000) × (48 ≤ d) × (d ≤ 57) = more-is _ _ digit in
    let s = c.args.s.now in (
      omega (arith, taken),
      omega (arith, taken),
      scan_step s c.loop-next.value c.loop-next.next (omega arith) digit ∙ c.loop-next.invariant.2,
      digits-on s c.args.at c.loop-next.value c.loop-next.next (omega arith) (omega arith) taken.1 taken.2 (omega arith)
          c.loop-next.invariant.3,
    )

pub returns : goal.returns
returns c = let s = c.args.s.now in
    let ended : length s ≡ c.loop-next.next = omega arith in record {
      value_value = scan-end s c.loop-next.value c.loop-next.next (omega arith) ∙ c.loop-next.invariant.2;
      next_value = ended ∙ c.loop-next.invariant.3;
    }
