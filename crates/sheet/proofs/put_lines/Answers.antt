-- `sheet::put_lines` meets its contract: what is left of the lines, stored from here on, gives the whole. Assumes nothing.
use lib.Seq.{sets}
use native.Mathlib.Omega.{arith}
use Prim.Native.Nat.{◌+◌, ◌-◌, ◌≤◌}
use mathlib.Core.Path.{sym, ap, ◌∙◌}
use lib.ListN.{length}
use Rattle.text.proofs.Writing.{begun, said, room, stored, ended}
use Rattle.sheet.specs.Sheet.{line_of, lines_from}
use Rattle.sheet.proofs.WriteLaws.{lines_next, lines_none, lines-all, plain, lines-plain}
use Rattle.sheet.proofs.put_lines.Goals as goal

pub loop-k-init : goal.loop-k-init
loop-k-init c = let a = c.args in
    said (lines-all (plain a.s.cells a.s.loads a.s.reach) a.s.cells) (begun _ _ _)

pub put_cell-p-requires : goal.put_cell-p-requires
unfolding line_of
put_cell-p-requires c =
    let fits : let a = c.args in a.at + length (lines_from (plain a.s.cells a.s.loads a.s.reach) 0 a.s.cells) ≤ length a.out.now = let a = c.args in rw
    (← lines-plain a.s a.s.cells 0) c.requires.1 in
    let a = c.args in (
      c.requires.0,
      omega (arith, c.requires.0),
      room (line_of (plain a.s.cells a.s.loads a.s.reach) c.loop-k.k)
          (lines_from (plain a.s.cells a.s.loads a.s.reach) (c.loop-k.k + 1) (a.s.cells - (c.loop-k.k + 1)))
          (said (lines_next (plain a.s.cells a.s.loads a.s.reach) c.loop-k.k a.s.cells (omega arith)) c.loop-k.invariant) fits,
    )

pub loop-k-preserved : goal.loop-k-preserved
unfolding line_of
loop-k-preserved c = let a = c.args in
    stored (line_of (plain a.s.cells a.s.loads a.s.reach) c.loop-k.k)
    (lines_from (plain a.s.cells a.s.loads a.s.reach) (c.loop-k.k + 1) (a.s.cells - (c.loop-k.k + 1)))
    (said (lines_next (plain a.s.cells a.s.loads a.s.reach) c.loop-k.k a.s.cells
    (omega arith)) c.loop-k.invariant) c.put_cell-p.ensures.stored c.put_cell-p.ensures.next

pub shape_of-out : goal.shape_of-out
shape_of-out c = c.loop-k.invariant.long

pub returns : goal.returns
returns c = let a = c.args in
    (ended (said (lines_none (plain a.s.cells a.s.loads a.s.reach) c.loop-k.k a.s.cells (omega arith)) c.loop-k.invariant)).0
    ∙ ap (sets a.out.now a.at) (sym (lines-plain a.s a.s.cells 0))
