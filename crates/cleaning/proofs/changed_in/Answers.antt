-- `cleaning::changed_in` meets its contract: what is left of the sheet, noted on from here, gives the answer. Assumes nothing.
use Rattle.std.proofs.Common.{ap, ◌∙◌, length-drop, arith}
use Rattle.std.proofs.lemmas.List.{take_all}
use borrow.Author.Tests.{eq-eqb, ne_eqb}
use Rattle.cleaning.specs.Clean.{changes_of, changes_from}
use Rattle.cleaning.specs.declared.Tidied.{Tidied}
use Rattle.cleaning.proofs.Kept.{begins-inside, changes-begin, changes-more, changes-last}
use Rattle.cleaning.proofs.changed_in.Goals as goal

pub returns-then-kind-eq-MARK_DROPPED : goal.returns-then-kind-eq-MARK_DROPPED
unfolding changes_of
returns-then-kind-eq-MARK_DROPPED c = rw (eq-eqb _ _ c.if-kind-eq-MARK_DROPPED.true) c.mark_change.ensures

pub slice_bounds-byte-items-start : goal.slice_bounds-byte-items-start
slice_bounds-byte-items-start c = omega (arith, c.begin-from.ensures.value, begins-inside c.args.s.now)

pub slice_bounds-byte-items-count : goal.slice_bounds-byte-items-count
slice_bounds-byte-items-count c = omega (arith, c.begin-from.ensures.value, begins-inside c.args.s.now)

pub loop-byte-init : goal.loop-byte-init
loop-byte-init c = let s = c.args.s.now in
    let from = c.begin-from.result in
    let e = c.none_changed-so_far.ensures in (
      omega (arith, ap (λ (x : Tidied). x.times) e),
      omega arith,
      ap (changes_from c.args.kind c.separator-sep.result c.first_spot-spot.result 1 c.none_changed-so_far.result)
          (take_all _ _ (omega (arith, length-drop from s)))
          ∙ changes-begin _ _ _ _ _ _ c.separator-sep.ensures c.first_spot-spot.ensures e c.begin-from.ensures.value,
    )

pub note-so_far-requires : goal.note-so_far-requires
note-so_far-requires c = omega (arith, c.loop-byte.invariant.0)

pub line_after-line-requires : goal.line_after-line-requires
line_after-line-requires c = omega (arith, c.loop-byte.invariant.1)

pub loop-byte-preserved : goal.loop-byte-preserved
loop-byte-preserved c = let l = c.loop-byte in (
  omega (arith, c.note-so_far.ensures.times_bound, l.invariant.0),
  omega (arith, c.line_after-line.ensures.upper_bound, l.invariant.1),
  changes-more _ _ _ l.spot l.line l.so_far l.byte-index c.step_of-stepped.result _ _ c.loop-byte-test.true c.step_of-stepped.ensures
      c.note-so_far.ensures.value c.line_after-line.ensures.value
      ∙ l.invariant.2,
)

pub note-requires : goal.note-requires
note-requires c = omega (arith, c.loop-byte.invariant.0)

pub returns : goal.returns
unfolding changes_of
returns c = let l = c.loop-byte in
    rw (ne_eqb _ _ c.if-kind-eq-MARK_DROPPED.false)
    (c.note.ensures.value
    ∙ changes-last _ _ _ l.spot l.line l.so_far l.byte-index c.end_of.result c.loop-byte-test.false c.end_of.ensures
    ∙ l.invariant.2)
