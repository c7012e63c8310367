-- `say_cells::put_row_line` meets its contract: the line's parts are put one after the other, or what is said where there is no run. Assumes nothing.
use mathlib.Core.Path.{◌≡◌, sym, ap, ◌∙◌}
use mathlib.Core.Bool.{true, false}
use native.Mathlib.Omega.{arith}
use Rattle.phrases.proofs.Put.{put_both, put-wide, put-long}
use Rattle.say_runs.specs.Runs.{run_before}
use Rattle.say_cells.specs.Cells.{row_line}
use Rattle.say_cells.proofs.put_row_line.Goals as goal

pub returns-then-not-some_run : goal.returns-then-not-some_run
unfolding row_line
returns-then-not-some_run c = let none : run_before c.args.row.now 128 ≡ false =
    ap (run_before c.args.row.now) (sym c.requires.2) ∙ sym c.some_run.ensures ∙ c.if-not-some_run.true in
    rw none (put-wide 46168 (omega arith) (rw c.none_phrase.ensures at c.put.ensures))

pub put_runs-last-requires : goal.put_runs-last-requires
put_runs-last-requires c = let q = c.put-first.ensures in
    (c.requires.0, omega (arith, c.requires.2), omega (arith, put-long q, q.follows, q.short, c.requires.3))

pub put-requires-2 : goal.put-requires-2
put-requires-2 c = let q = c.put-first.ensures in
    let r = c.put_runs-last.ensures in
    omega (arith, put-long q, q.follows, q.short, put-long r, r.follows, r.short, c.requires.3)

pub returns : goal.returns
unfolding row_line
returns c = let some : run_before c.args.row.now 128 ≡ true =
    ap (run_before c.args.row.now) (sym c.requires.2) ∙ sym c.some_run.ensures ∙ c.if-not-some_run.false in
    let head = rw c.begin_phrase.ensures at c.put-first.ensures in
    rw some (put-wide 46168 (omega arith) (put_both _ _ head (put_both _ _ c.put_runs-last.ensures c.put-2.ensures)))
