-- `say_grid::put_whole_line` meets its contract: its parts are put one after the other. Assumes nothing.
use native.Mathlib.Omega.{arith}
use Rattle.phrases.proofs.Put.{put_both, put-wide, put-long}
use Rattle.say_grid.proofs.put_whole_line.Goals as goal

pub put_columns-last-requires : goal.put_columns-last-requires
put_columns-last-requires c = let q = c.put-first.ensures in record {
  table_value = c.requires.table_value;
  line_le_channels =
      (c.requires.line_le_channels.0, c.requires.line_le_channels.1, omega (arith, put-long q, q.follows, q.short, c.requires.line_le_channels.2));
}

pub put-requires : goal.put-requires
put-requires c = let q = c.put-first.ensures in
    let r = c.put_columns-last.ensures in
    omega (arith, put-long q, q.follows, q.short, put-long r, r.follows, r.short, c.requires.line_le_channels.2)

pub returns : goal.returns
returns c = let head = rw c.head_phrase.ensures at c.put-first.ensures in
    put-wide 41192 (omega arith) (put_both _ _ head (put_both _ _ c.put_columns-last.ensures c.put.ensures))
