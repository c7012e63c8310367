-- `say_cells::put_sender` meets its contract: nothing is put where there is no such cell. Assumes nothing.
use Prim.Native.Nat.{◌<◌}
use mathlib.Core.Path.{◌≡◌, sym, ap, ◌∙◌}
use mathlib.Core.Bool.{true}
use native.Mathlib.Omega.{arith}
use borrow.Author.Tests.{lt-ltb, le-ltb}
use lib.ListN.{length}
use Rattle.laws.proofs.Stores.{length-list}
use Rattle.phrases.proofs.Put.{put-none}
use Rattle.say_faults.specs.Said.{judgeable}
use Rattle.say_faults.proofs.Ready.{ready-fine, ready-sizes}
use Rattle.say_cells.specs.Cells.{slot_channels, sender_row, sender_line}
use Rattle.say_cells.proofs.put_sender.Goals as goal

pub returns-then-not-can_judge : goal.returns-then-not-can_judge
unfolding sender_line
returns-then-not-can_judge c = rw (sym c.can_judge.ensures ∙ c.if-not-can_judge.true) (put-none _ _ _)

pub returns-then-site-i : goal.returns-then-site-i
unfolding sender_line
returns-then-site-i c =
    let judged : judgeable c.args.site c.args.table.now ≡ true = sym c.can_judge.ensures ∙ c.if-not-can_judge.false in
    let a = c.args in
    rw (judged, le-ltb a.i a.site.cells c.if-site-i.true) (put-none _ _ _)

pub lay_words-requires : goal.lay_words-requires
lay_words-requires c =
    let judged : judgeable c.args.site c.args.table.now ≡ true = sym c.can_judge.ensures ∙ c.if-not-can_judge.false in
    let a = c.args in
    let ok = judged in
    (ok, c.clash_rows-clash.ensures.rows, c.clash_rows-clash.ensures.clash (ready-fine a.site a.table.now ok), omega (arith, c.if-site-i.false))

pub put_row_line-requires : goal.put_row_line-requires
put_row_line-requires c =
    let judged : judgeable c.args.site c.args.table.now ≡ true = sym c.can_judge.ensures ∙ c.if-not-can_judge.false in
    let a = c.args in
    let z = ready-sizes a.site a.table.now judged in (
      z.channels_most,
      omega (arith, c.if-site-i.false, z.cells_most),
      ap length c.lay_words.ensures ∙ length-list (slot_channels a.site a.table.now a.kind a.i) 128,
      c.requires,
    )

pub returns : goal.returns
unfolding sender_line sender_row
returns c =
    let judged : judgeable c.args.site c.args.table.now ≡ true = sym c.can_judge.ensures ∙ c.if-not-can_judge.false in
    let a = c.args in
    let below : a.i < a.site.cells = omega (arith, c.if-site-i.false) in
    rw (judged, lt-ltb a.i a.site.cells below) (rw c.lay_words.ensures at c.put_row_line.ensures)
