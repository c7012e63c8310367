-- `say_grid::entry_size` meets its contract: what is put at the start of a buffer ends at its length. Assumes nothing.
use native.Mathlib.Omega.{arith}
use borrow.Author.Rules.{rules}
use Rattle.say_grid.proofs.entry_size.Goals as goal

pub put_entry-requires : goal.put_entry-requires
put_entry-requires c = record {
  table_value = c.requires.table_value;
  line_le_channels =
      (c.requires.line_le_channels.0, c.requires.line_le_channels.1, search rules);
}

pub returns : goal.returns
returns c = let p = c.put_entry.ensures in (omega (arith, p.follows), omega (arith, p.follows, p.short))
