-- `lines::scan` meets its contract: what is left of the input, scanned on from here, gives the number; no digit is taken above 9,999, so nothing wraps.
-- Assumes nothing.
use Prim.Native.Nat.{◌≤◌, ◌<◌}
use mathlib.Core.Bool.{true}
use lib.ListN.{get_or}
use Rattle.lines.specs.Content.{more}
use native.Mathlib.Omega.{arith}
use mathlib.Core.Path.{◌≡◌, sym, ◌∙◌}
use Rattle.lines.proofs.Numbers.{more-is, scan-end, scan-stop, scan_step}
use Rattle.lines.proofs.scan.Goals as goal

pub returns-then-not-is_digit : goal.returns-then-not-is_digit
returns-then-not-is_digit c = let e = scan-stop c.args.s.now c.loop-p.v c.loop-p.p (omega arith)
    (sym c.is_digit.ensures ∙ c.if-not-is_digit.true) in record { value = e ∙ c.loop-p.invariant.1; upper_bound = c.loop-p.invariant.0 }

pub overflow_sub-v : goal.overflow_sub-v
overflow_sub-v c =
    let digit : more c.loop-p.v (get_or c.args.s.now c.loop-p.p 0) ≡ true = sym c.is_digit.ensures ∙ c.if-not-is_digit.false in
    let taken : let d = get_or c.args.s.now c.loop-p.p 0 in (c.loop-p.v < 10000) × (48 ≤ d) × (d ≤ 57) = more-is _ _ digit in
    omega (arith, taken)

pub loop-p-preserved : goal.loop-p-preserved
loop-p-preserved c =
    let digit : more c.loop-p.v (get_or c.args.s.now c.loop-p.p 0) ≡ true = sym c.is_digit.ensures ∙ c.if-not-is_digit.false in
    let taken : let d = get_or c.args.s.now c.loop-p.p 0 in (c.loop-p.v < 10000) × (48 ≤ d) × (d ≤ 57) = more-is _ _ digit in
    (omega (arith, taken), scan_step c.args.s.now c.loop-p.v c.loop-p.p (omega arith) digit ∙ c.loop-p.invariant.1)

pub returns : goal.returns
returns c = let e = scan-end c.args.s.now c.loop-p.v c.loop-p.p (omega arith) in record { value = e ∙ c.loop-p.invariant.1; upper_bound = c.loop-p.invariant.0 }
