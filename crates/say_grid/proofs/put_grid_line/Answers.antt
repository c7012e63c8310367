-- `say_grid::put_grid_line` meets its contract: nothing is put where there is no such line. Assumes nothing.
use mathlib.Core.Path.{sym, ◌∙◌}
use Rattle.phrases.proofs.Put.{put-none}
use Rattle.say_faults.proofs.Ready.{ready-fine}
use Rattle.say_grid.specs.Grid.{grid_line}
use Rattle.say_grid.proofs.Steps.{there_has}
use Rattle.say_grid.proofs.put_grid_line.Goals as goal

pub returns-then-not-line_there : goal.returns-then-not-line_there
unfolding grid_line
returns-then-not-line_there c = rw (sym c.line_there.ensures ∙ c.if-not-line_there.true) (put-none _ _ _)

pub put_whole_line-requires : goal.put_whole_line-requires
put_whole_line-requires c = let a = c.args in
    let is = sym c.line_there.ensures ∙ c.if-not-line_there.false in
    let has = there_has a.site a.table.now a.line a.from a.many is in record {
      table_value =
          (has.0, c.clash_rows-clash.ensures.clash (ready-fine a.site a.table.now has.0));
      line_le_channels = (has.1, has.2, c.requires);
    }

pub returns : goal.returns
unfolding grid_line
returns c = rw (sym c.line_there.ensures ∙ c.if-not-line_there.false) c.put_whole_line.ensures
