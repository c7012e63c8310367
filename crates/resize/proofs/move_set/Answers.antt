-- `resize::move_set` meets its contract: before word j, the words below it are there. Assumes nothing.
use mathlib.Core.Path.{◌≡◌, sym, ap, ◌∙◌}
use native.Mathlib.Omega.{arith}
use lib.ListN.{length}
use lib.Seq.{sets}
use Rattle.laws.specs.Part.{list_of}
use Rattle.laws.proofs.Stores.{sets-none, sets_more, sets-all, length-list}
use Rattle.positions.specs.Blocked.{word_in}
use Rattle.resize.specs.Sizes.{moved_at}
use Rattle.resize.proofs.move_set.Goals as goal

pub loop-j-init : goal.loop-j-init
loop-j-init c = (omega arith, sets-none _ _)

pub loop-j-preserved : goal.loop-j-preserved
loop-j-preserved c = let e = c.args in (
  omega arith,
  sets_more (word_in (moved_at e.set.now e.slots e.channels e.to)) c.loop-j.j c.moved_word.result c.loop-j.out e.out.now
      c.moved_word.ensures c.loop-j.invariant.1,
)

pub returns : goal.returns
returns c = let e = c.args in
    let f = word_in (moved_at e.set.now e.slots e.channels e.to) in
    let n : c.loop-j.j ≡ 32 = omega arith in
    let long : length e.out.now ≡ 32 = omega arith in
    c.loop-j.invariant.1 ∙ ap (λ m. sets e.out.now 0 (list_of f m)) n ∙ sets-all (list_of f 32) e.out.now (length-list f 32 ∙ sym long)
