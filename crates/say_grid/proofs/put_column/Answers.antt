-- `say_grid::put_column` meets its contract: as many blanks as are left, and what stands there. Assumes nothing.
use Prim.Native.Nat.{◌≤◌}
use native.Mathlib.Omega.{arith}
use Rattle.phrases.proofs.Put.{put_both, put-wide, put-long}
use Rattle.say_grid.proofs.Steps.{entry-fits}
use Rattle.say_grid.proofs.put_column.Goals as goal

pub column_width-width-requires : goal.column_width-width-requires
column_width-width-requires c = (c.requires.table_value.0, c.requires.table_value.1, c.requires.line_le_channels.1)

pub entry_size-size-requires : goal.entry_size-size-requires
entry_size-size-requires c = record { table_value = c.requires.table_value; line_le_channels = (c.requires.line_le_channels.0, c.requires.line_le_channels.1) }

pub overflow_add-width : goal.overflow_add-width
overflow_add-width c = omega (arith, c.column_width-width.ensures.1)

pub overflow_sub-width : goal.overflow_sub-width
overflow_sub-width c =
    let fits : c.entry_size-size.result ≤ c.column_width-width.result = omega (
      arith,
      c.entry_size-size.ensures.0,
      c.column_width-width.ensures.0,
      entry-fits c.args.site c.args.table.now c.args.line c.args.slot c.requires.line_le_channels.0,
    ) in
    omega (arith, fits)

pub put_blanks-first-requires : goal.put_blanks-first-requires
put_blanks-first-requires c = (omega (arith, c.column_width-width.ensures.1), omega (arith, c.column_width-width.ensures.1, c.requires.line_le_channels.2))

pub put_entry-requires : goal.put_entry-requires
put_entry-requires c = let q = c.put_blanks-first.ensures in record {
  table_value = c.requires.table_value;
  line_le_channels = (
    c.requires.line_le_channels.0,
    c.requires.line_le_channels.1,
    omega
        (arith, put-long q, q.follows, q.short, c.column_width-width.ensures.1, c.requires.line_le_channels.2),
  );
}

pub returns : goal.returns
returns c = let q = rw (c.column_width-width.ensures.0, c.entry_size-size.ensures.0) at c.put_blanks-first.ensures in
    put-wide 314 (omega (arith, c.column_width-width.ensures.0, c.column_width-width.ensures.1)) (put_both _ _ q c.put_entry.ensures)
