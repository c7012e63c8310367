-- `sheet::put_sheet` meets its contract: the length, the first line, the lines. Assumes nothing.
use native.Mathlib.Omega.{arith}
use Prim.Native.Nat.{◌<◌}
use lib.ListN.{length}
use mathlib.Core.Path.{◌∙◌}
use Rattle.records.proofs.Write.{written-done, written-short, laid_done, laid-short}
use Rattle.sheet.proofs.WriteLaws.{sheet-parts, sheet-put}
use Rattle.sheet.proofs.put_sheet.Goals as goal

pub returns-then-out-need : goal.returns-then-out-need
returns-then-out-need c = let short : length c.args.out.now < c.sheet_len-need.result = omega arith in record
    { value = written-short _ _ _ c.sheet_len-need.ensures short; out_after = laid-short _ _ (omega (arith, c.sheet_len-need.ensures)) }

pub put_header-at-requires : goal.put_header-at-requires
put_header-at-requires c = (c.requires, omega (arith, sheet-parts c.args.s, c.sheet_len-need.ensures))

pub put_lines-requires : goal.put_lines-requires
put_lines-requires c = (c.requires, omega (arith, sheet-parts c.args.s, c.sheet_len-need.ensures, c.put_header-at.ensures.next, c.put_header-at.auto.out))

pub returns : goal.returns
returns c = record {
  value = written-done _ _ _ c.sheet_len-need.ensures c.if-out-need.false;
  out_after = c.put_lines.ensures
      ∙ sheet-put c.args.s c.args.out.now _ _ c.put_header-at.ensures.stored c.put_header-at.ensures.next
      ∙ laid_done _ _ (omega (arith, c.sheet_len-need.ensures));
}
