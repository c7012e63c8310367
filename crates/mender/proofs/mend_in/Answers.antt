-- `mender::mend_in` meets its contract: where every cell stands nothing changes, or the list has room, or not; and else the answer is that of any list.
-- Assumes nothing.
use mathlib.Core.Path.{◌∙◌}
use native.Mathlib.Omega.{arith}
use Rattle.site.proofs.Faults.{few-positions}
use Rattle.mender.proofs.Written.{mended, sizes, within, number_is, answer-done, table_done, list_done, none_done}
use Rattle.mender.proofs.Written.{answer-short, short-left, answer-other, other-left}
use Rattle.mender.proofs.mend_in.Goals as goal

pub returns-in_err-number : goal.returns-in_err-number
returns-in_err-number c = let l = c.args.changes.now in
    let st = c.stand_site.ensures in
    let left = other-left st c.in_err-number.was l in record {
      answer = grind (arith, answer-other st c.in_err-number.was l);
      table = left.0;
      changes = left.1;
    }

pub returns-then-number-eq0 : goal.returns-then-number-eq0
returns-then-number-eq0 c = let l = c.args.changes.now in
    let st = c.stand_site.ensures in
    let left = none_done st c.in_ok-number.was l (omega (arith, c.if-number-eq0.true)) c.if-number-eq0.true in record {
      answer = answer-done st c.in_ok-number.was l (omega (arith, c.if-number-eq0.true));
      table = left.0;
      changes = left.1;
    }

pub returns-then-changes-number : goal.returns-then-changes-number
returns-then-changes-number c = let l = c.args.changes.now in
    let st = c.stand_site.ensures in
    let left = short-left st c.in_ok-number.was l (omega (arith, c.if-changes-number.true)) in record {
      answer = answer-short st c.in_ok-number.was l (omega (arith, c.if-changes-number.true));
      table = left.0;
      changes = left.1;
    }

pub list_all-requires : goal.list_all-requires
list_all-requires c = let st = c.stand_site.ensures in
    let sized = sizes st c.in_ok-number.was in
    let few = few-positions sized in
    let fine = (mended st c.in_ok-number.was).fine in record {
      cells_bound = (
        sized.cells_most,
        few,
        omega (arith, few),
        (mended st c.in_ok-number.was).long,
        omega (arith, c.requires.0 fine, c.stand_site.auto.stands),
        omega (arith, c.requires.1 fine, c.stand_site.auto.old),
      );
      all_within = (within st c.in_ok-number.was, omega (arith, number_is st c.in_ok-number.was, c.if-changes-number.false));
    }

pub returns : goal.returns
returns c = let st = c.stand_site.ensures in
    let l = c.args.changes.now in record {
      answer = answer-done st c.in_ok-number.was l (omega (arith, c.if-changes-number.false));
      table = c.list_all.ensures.table ∙ table_done st c.in_ok-number.was l (omega (arith, c.if-changes-number.false));
      changes = c.list_all.ensures.list ∙ list_done st c.in_ok-number.was l (omega (arith, c.if-changes-number.false));
    }
