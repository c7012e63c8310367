-- `flowsheet::read_flow` meets its contract: five fields and a line feed, each after the other; where one is not there the whole line is not. Assumes nothing.
use native.Mathlib.Omega.{arith}
use Prim.Native.Nat.{◌≤◌, ◌<◌}
use lib.ListN.{length}
use Rattle.lines.specs.Match.{nowhere}
use Rattle.flowsheet.proofs.Fields.{Parts, no_line-law, fit, line_read-law}
use Rattle.flowsheet.proofs.read_flow.Goals as goal

pub returns-then-end : goal.returns-then-end
returns-then-end c =
    let short : length c.args.s.now < nowhere = omega arith in
    let parts : Parts c.args.s.now c.args.at = record {
      cell = c.read_field-cell.result;
      burst = c.read_field-burst.result;
      period = c.read_field-period.result;
      repeats = c.read_field-repeats.result;
      value = c.read_field-value.result;
      end = c.eat-end.result;
      is-cell = c.read_field-cell.ensures;
      is-burst = c.read_field-burst.ensures;
      is-period = c.read_field-period.ensures;
      is-repeats = c.read_field-repeats.ensures;
      is-value = c.read_field-value.ensures;
      is-end = c.eat-end.ensures;
    } in
    no_line-law _ _ short parts c.if-end.true

-- each number fits
pub overflow_cast-flow : goal.overflow_cast-flow
overflow_cast-flow c =
    let short : length c.args.s.now < nowhere = omega arith in
    let parts : Parts c.args.s.now c.args.at = record {
      cell = c.read_field-cell.result;
      burst = c.read_field-burst.result;
      period = c.read_field-period.result;
      repeats = c.read_field-repeats.result;
      value = c.read_field-value.result;
      end = c.eat-end.result;
      is-cell = c.read_field-cell.ensures;
      is-burst = c.read_field-burst.ensures;
      is-period = c.read_field-period.ensures;
      is-repeats = c.read_field-repeats.ensures;
      is-value = c.read_field-value.ensures;
      is-end = c.eat-end.ensures;
    } in
    let fits : (c.read_field-cell.result.value ≤ 65535) × (c.read_field-burst.result.value ≤ 65535) × (c.read_field-period.result.value ≤ 65535)
    × (c.read_field-repeats.result.value ≤ 65535) × (c.read_field-value.result.value ≤ 65535) = fit _ _ short parts c.if-end.false in
    omega (arith, fits)

pub overflow_cast-flow-2 : goal.overflow_cast-flow-2
overflow_cast-flow-2 c =
    let short : length c.args.s.now < nowhere = omega arith in
    let parts : Parts c.args.s.now c.args.at = record {
      cell = c.read_field-cell.result;
      burst = c.read_field-burst.result;
      period = c.read_field-period.result;
      repeats = c.read_field-repeats.result;
      value = c.read_field-value.result;
      end = c.eat-end.result;
      is-cell = c.read_field-cell.ensures;
      is-burst = c.read_field-burst.ensures;
      is-period = c.read_field-period.ensures;
      is-repeats = c.read_field-repeats.ensures;
      is-value = c.read_field-value.ensures;
      is-end = c.eat-end.ensures;
    } in
    let fits : (c.read_field-cell.result.value ≤ 65535) × (c.read_field-burst.result.value ≤ 65535) × (c.read_field-period.result.value ≤ 65535)
    × (c.read_field-repeats.result.value ≤ 65535) × (c.read_field-value.result.value ≤ 65535) = fit _ _ short parts c.if-end.false in
    omega (arith, fits)

pub overflow_cast-flow-3 : goal.overflow_cast-flow-3
overflow_cast-flow-3 c =
    let short : length c.args.s.now < nowhere = omega arith in
    let parts : Parts c.args.s.now c.args.at = record {
      cell = c.read_field-cell.result;
      burst = c.read_field-burst.result;
      period = c.read_field-period.result;
      repeats = c.read_field-repeats.result;
      value = c.read_field-value.result;
      end = c.eat-end.result;
      is-cell = c.read_field-cell.ensures;
      is-burst = c.read_field-burst.ensures;
      is-period = c.read_field-period.ensures;
      is-repeats = c.read_field-repeats.ensures;
      is-value = c.read_field-value.ensures;
      is-end = c.eat-end.ensures;
    } in
    let fits : (c.read_field-cell.result.value ≤ 65535) × (c.read_field-burst.result.value ≤ 65535) × (c.read_field-period.result.value ≤ 65535)
    × (c.read_field-repeats.result.value ≤ 65535) × (c.read_field-value.result.value ≤ 65535) = fit _ _ short parts c.if-end.false in
    omega (arith, fits)

pub overflow_cast-flow-4 : goal.overflow_cast-flow-4
overflow_cast-flow-4 c =
    let short : length c.args.s.now < nowhere = omega arith in
    let parts : Parts c.args.s.now c.args.at = record {
      cell = c.read_field-cell.result;
      burst = c.read_field-burst.result;
      period = c.read_field-period.result;
      repeats = c.read_field-repeats.result;
      value = c.read_field-value.result;
      end = c.eat-end.result;
      is-cell = c.read_field-cell.ensures;
      is-burst = c.read_field-burst.ensures;
      is-period = c.read_field-period.ensures;
      is-repeats = c.read_field-repeats.ensures;
      is-value = c.read_field-value.ensures;
      is-end = c.eat-end.ensures;
    } in
    let fits : (c.read_field-cell.result.value ≤ 65535) × (c.read_field-burst.result.value ≤ 65535) × (c.read_field-period.result.value ≤ 65535)
    × (c.read_field-repeats.result.value ≤ 65535) × (c.read_field-value.result.value ≤ 65535) = fit _ _ short parts c.if-end.false in
    omega (arith, fits)

pub overflow_cast-flow-5 : goal.overflow_cast-flow-5
overflow_cast-flow-5 c =
    let short : length c.args.s.now < nowhere = omega arith in
    let parts : Parts c.args.s.now c.args.at = record {
      cell = c.read_field-cell.result;
      burst = c.read_field-burst.result;
      period = c.read_field-period.result;
      repeats = c.read_field-repeats.result;
      value = c.read_field-value.result;
      end = c.eat-end.result;
      is-cell = c.read_field-cell.ensures;
      is-burst = c.read_field-burst.ensures;
      is-period = c.read_field-period.ensures;
      is-repeats = c.read_field-repeats.ensures;
      is-value = c.read_field-value.ensures;
      is-end = c.eat-end.ensures;
    } in
    let fits : (c.read_field-cell.result.value ≤ 65535) × (c.read_field-burst.result.value ≤ 65535) × (c.read_field-period.result.value ≤ 65535)
    × (c.read_field-repeats.result.value ≤ 65535) × (c.read_field-value.result.value ≤ 65535) = fit _ _ short parts c.if-end.false in
    omega (arith, fits)

pub returns : goal.returns
returns c =
    let short : length c.args.s.now < nowhere = omega arith in
    let parts : Parts c.args.s.now c.args.at = record {
      cell = c.read_field-cell.result;
      burst = c.read_field-burst.result;
      period = c.read_field-period.result;
      repeats = c.read_field-repeats.result;
      value = c.read_field-value.result;
      end = c.eat-end.result;
      is-cell = c.read_field-cell.ensures;
      is-burst = c.read_field-burst.ensures;
      is-period = c.read_field-period.ensures;
      is-repeats = c.read_field-repeats.ensures;
      is-value = c.read_field-value.ensures;
      is-end = c.eat-end.ensures;
    } in
    line_read-law _ _ short parts c.if-end.false
