-- `mender::mend_only_in` meets its contract: the answer is that of a list with room for every change; where every cell stands they are stored. Assumes nothing.
use mathlib.Core.Path.{◌∙◌}
use native.Mathlib.Omega.{arith}
use Rattle.site.proofs.Faults.{few-positions}
use Rattle.mender.specs.Mend.{list_room}
use Rattle.mender.proofs.Written.{mended, sizes, within, answer-done, table_done, other-left}
use Rattle.mender.proofs.mend_only_in.Goals as goal

pub returns-in_err-changes-clause-table : goal.returns-in_err-changes-clause-table
returns-in_err-changes-clause-table c = (other-left c.stand_site.ensures c.in_err-changes.was (list_room c.args.site)).0

pub store_all-requires : goal.store_all-requires
store_all-requires c = let st = c.stand_site.ensures in
    let sized = sizes st c.in_ok-changes.was in
    let few = few-positions sized in
    let fine = (mended st c.in_ok-changes.was).fine in record {
      cells_bound = (
        sized.cells_most,
        few,
        omega (arith, few),
        (mended st c.in_ok-changes.was).long,
        omega (arith, c.requires.1 fine, c.stand_site.auto.stands),
        omega (arith, c.requires.2 fine, c.stand_site.auto.old),
      );
      all_within = (within st c.in_ok-changes.was, c.requires.0 fine);
    }

pub returns : goal.returns
returns c = let st = c.stand_site.ensures in
    let l = list_room c.args.site in
    let done = c.in_ok-changes.was in
    let room = (mended st done).room in
    record { answer = answer-done st done l room; table = c.store_all.ensures ∙ table_done st done l room }
