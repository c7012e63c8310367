-- `wordtable::tally` meets its contract: before each turn the cells of the word below some k are looked at, and the rest are left (proofs/Counts.antt).
-- What is left gets smaller with each. Assumes nothing.
use mathlib.Core.Path.{◌≡◌, refl, ap}
use Prim.Native.Nat.{◌+◌, ◌<◌}
use native.Mathlib.Omega.{arith}
use lib.Bits.{bit_and}
use lib.Count.{count_trailing_zeros, trailing_le}
use Rattle.wordtable.proofs.Counts.{none-tallied, all-added, all_meet, at-inside, not_yet, onward-less, one-tallied}
use Rattle.wordtable.proofs.tally.Goals as goal

pub low_bits-requires : goal.low_bits-requires
low_bits-requires c = omega arith

pub loop-left-init : goal.loop-left-init
loop-left-init c = let a = c.args in
    (0, none-tallied a.cells a.word a.times a.clash.now a.counts.now _ (ap (bit_and a.word) c.low_bits.ensures))

pub overflow_cast-i : goal.overflow_cast-i
overflow_cast-i c = omega (arith, trailing_le 32 c.loop-left.left)

pub overflow_sub-left : goal.overflow_sub-left
overflow_sub-left c = omega arith

pub offset_bounds-counts-i : goal.offset_bounds-counts-i
offset_bounds-counts-i c =
    let inside : count_trailing_zeros 32 c.loop-left.left < c.args.cells = let l = c.loop-left in
    at-inside c.args.cells c.args.word c.args.times c.args.clash.now c.args.counts.now l.invariant.0 l.counts l.met
    l.left l.invariant.1
    (λ e. omega (arith, c.loop-left-test.true)) c.requires.cells_bound in
    omega (arith, inside, c.requires.cells_bound)

pub bounds-counts-i : goal.bounds-counts-i
bounds-counts-i c =
    let inside : count_trailing_zeros 32 c.loop-left.left < c.args.cells = let l = c.loop-left in
    at-inside c.args.cells c.args.word c.args.times c.args.clash.now c.args.counts.now l.invariant.0 l.counts l.met
    l.left l.invariant.1
    (λ e. omega (arith, c.loop-left-test.true)) c.requires.cells_bound in
    omega (arith, inside, c.requires.cells_bound)

pub overflow_add-counts : goal.overflow_add-counts
overflow_add-counts c =
    let inside : count_trailing_zeros 32 c.loop-left.left < c.args.cells = let l = c.loop-left in
    at-inside c.args.cells c.args.word c.args.times c.args.clash.now c.args.counts.now l.invariant.0 l.counts l.met
    l.left l.invariant.1
    (λ e. omega (arith, c.loop-left-test.true)) c.requires.cells_bound in
    let l = c.loop-left in
    omega (
      arith,
      not_yet c.args.cells c.args.word c.args.times c.args.clash.now c.args.counts.now l.invariant.0 l.counts l.met
          l.left l.invariant.1
          (λ e. omega (arith, c.loop-left-test.true)) c.requires.cells_bound,
      c.requires.room.1 (count_trailing_zeros 32 l.left) inside,
    )

pub offset_bounds-counts-i-in-loop-left : goal.offset_bounds-counts-i-in-loop-left
offset_bounds-counts-i-in-loop-left c =
    let inside : count_trailing_zeros 32 c.loop-left.left < c.args.cells = let l = c.loop-left in
    at-inside c.args.cells c.args.word c.args.times c.args.clash.now c.args.counts.now l.invariant.0 l.counts l.met
    l.left l.invariant.1
    (λ e. omega (arith, c.loop-left-test.true)) c.requires.cells_bound in
    omega (arith, inside, c.requires.cells_bound)

pub bounds-counts-i-in-loop-left : goal.bounds-counts-i-in-loop-left
bounds-counts-i-in-loop-left c =
    let inside : count_trailing_zeros 32 c.loop-left.left < c.args.cells = let l = c.loop-left in
    at-inside c.args.cells c.args.word c.args.times c.args.clash.now c.args.counts.now l.invariant.0 l.counts l.met
    l.left l.invariant.1
    (λ e. omega (arith, c.loop-left-test.true)) c.requires.cells_bound in
    omega (arith, inside, c.requires.cells_bound)

pub offset_bounds-clash-i : goal.offset_bounds-clash-i
offset_bounds-clash-i c =
    let inside : count_trailing_zeros 32 c.loop-left.left < c.args.cells = let l = c.loop-left in
    at-inside c.args.cells c.args.word c.args.times c.args.clash.now c.args.counts.now l.invariant.0 l.counts l.met
    l.left l.invariant.1
    (λ e. omega (arith, c.loop-left-test.true)) c.requires.cells_bound in
    omega (arith, inside, c.requires.cells_bound)

pub bounds-clash-i : goal.bounds-clash-i
bounds-clash-i c =
    let inside : count_trailing_zeros 32 c.loop-left.left < c.args.cells = let l = c.loop-left in
    at-inside c.args.cells c.args.word c.args.times c.args.clash.now c.args.counts.now l.invariant.0 l.counts l.met
    l.left l.invariant.1
    (λ e. omega (arith, c.loop-left-test.true)) c.requires.cells_bound in
    omega (arith, inside, c.requires.cells_bound)

pub loop-left-smaller : goal.loop-left-smaller
loop-left-smaller c = let l = c.loop-left in
    onward-less c.args.cells c.args.word c.args.times c.args.clash.now c.args.counts.now l.invariant.0 l.counts l.met
    l.left l.invariant.1
    (λ e. omega (arith, c.loop-left-test.true)) c.requires.cells_bound

pub loop-left-preserved : goal.loop-left-preserved
loop-left-preserved c = let l = c.loop-left in (
  count_trailing_zeros 32 l.left + 1,
  one-tallied c.args.cells c.args.word c.args.times c.args.clash.now c.args.counts.now l.invariant.0 l.counts l.met
      l.left l.invariant.1
      (λ e. omega (arith, c.loop-left-test.true)) c.requires.cells_bound _ refl c.requires.room.0,
)

pub returns : goal.returns
returns c = let a = c.args in
    let l = c.loop-left in
    let done : l.left ≡ 0 = omega (arith, c.loop-left-test.false) in record {
      met = all_meet a.cells a.word a.times a.clash.now a.counts.now l.invariant.0 l.counts l.met l.left l.invariant.1 done;
      counted = all-added a.cells a.word a.times a.clash.now a.counts.now l.invariant.0 l.counts l.met l.left l.invariant.1 done;
    }
