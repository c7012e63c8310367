-- `clashblocks::united` meets its contract: a walk over the cells of a word; before each turn the blocks of those below some j are joined. Assumes nothing.
use mathlib.Core.Path.{◌≡◌, sym, ap, ◌∙◌}
use mathlib.Core.Bool.{◌&&◌}
use Prim.Native.Nat.{◌+◌, ◌<◌, ◌^◌}
use native.Mathlib.Omega.{arith}
use lib.Count.{count_trailing_zeros, trailing_le}
use borrow.Author.Tests.{le-leb}
use Rattle.laws.specs.Bits.{bit_at}
use Rattle.laws.proofs.Upward.{from_on, walk_inside, walk-off, walk-less}
use Rattle.laws.proofs.Words.{word-bits, word-eq}
use Rattle.clashblocks.proofs.Above.{unite-none, unite-more, unite-all}
use borrow.Author.Rules.{rules}
use Rattle.clashblocks.proofs.united.Goals as goal

pub loop-rest-init : goal.loop-rest-init
loop-rest-init c =
    let small : c.args.word < 2 ^ 32 = search rules in
    let word = c.args.word in (
      0,
      omega arith,
      word-bits word 32 small
          ∙ word-eq (bit_at word) (from_on (bit_at word) 0) 32 (λ j l. ap (λ t. t && bit_at word j) (sym (le-leb 0 j (omega arith)))),
      unite-none c.args.lows.now c.args.highs.now word,
    )

pub overflow_cast-c : goal.overflow_cast-c
overflow_cast-c c = omega (arith, trailing_le 32 c.loop-rest.rest)

pub offset_bounds-lows-c : goal.offset_bounds-lows-c
offset_bounds-lows-c c =
    let some : c.loop-rest.rest ≡ 0 → ⊥ = λ e. omega (arith, c.loop-rest-test.true) in
    let inside : count_trailing_zeros 32 c.loop-rest.rest < 32 = let l = c.loop-rest in
    walk_inside (bit_at c.args.word) 32 l.invariant.0 l.rest l.invariant.2 some (omega arith) in
    omega (arith, inside)

pub bounds-lows-c : goal.bounds-lows-c
bounds-lows-c c =
    let some : c.loop-rest.rest ≡ 0 → ⊥ = λ e. omega (arith, c.loop-rest-test.true) in
    let inside : count_trailing_zeros 32 c.loop-rest.rest < 32 = let l = c.loop-rest in
    walk_inside (bit_at c.args.word) 32 l.invariant.0 l.rest l.invariant.2 some (omega arith) in
    omega (arith, inside)

pub offset_bounds-highs-c : goal.offset_bounds-highs-c
offset_bounds-highs-c c =
    let some : c.loop-rest.rest ≡ 0 → ⊥ = λ e. omega (arith, c.loop-rest-test.true) in
    let inside : count_trailing_zeros 32 c.loop-rest.rest < 32 = let l = c.loop-rest in
    walk_inside (bit_at c.args.word) 32 l.invariant.0 l.rest l.invariant.2 some (omega arith) in
    omega (arith, inside)

pub bounds-highs-c : goal.bounds-highs-c
bounds-highs-c c =
    let some : c.loop-rest.rest ≡ 0 → ⊥ = λ e. omega (arith, c.loop-rest-test.true) in
    let inside : count_trailing_zeros 32 c.loop-rest.rest < 32 = let l = c.loop-rest in
    walk_inside (bit_at c.args.word) 32 l.invariant.0 l.rest l.invariant.2 some (omega arith) in
    omega (arith, inside)

pub overflow_sub-rest : goal.overflow_sub-rest
overflow_sub-rest c = omega (arith, c.loop-rest-test.true)

pub loop-rest-smaller : goal.loop-rest-smaller
loop-rest-smaller c =
    let some : c.loop-rest.rest ≡ 0 → ⊥ = λ e. omega (arith, c.loop-rest-test.true) in
    let l = c.loop-rest in
    walk-less (bit_at c.args.word) 32 l.invariant.0 l.rest l.invariant.2 some (omega arith)

pub loop-rest-preserved : goal.loop-rest-preserved
loop-rest-preserved c =
    let some : c.loop-rest.rest ≡ 0 → ⊥ = λ e. omega (arith, c.loop-rest-test.true) in
    let inside : count_trailing_zeros 32 c.loop-rest.rest < 32 = let l = c.loop-rest in
    walk_inside (bit_at c.args.word) 32 l.invariant.0 l.rest l.invariant.2 some (omega arith) in
    let l = c.loop-rest in
    let a = c.args in (
      count_trailing_zeros 32 l.rest + 1,
      omega (arith, inside),
      walk-off (bit_at a.word) 32 l.invariant.0 l.rest l.invariant.2 some (omega arith),
      unite-more a.lows.now a.highs.now a.word l.invariant.0 l.rest l.invariant.2 l.low l.high l.invariant.3 some,
    )

pub returns : goal.returns
returns c = let l = c.loop-rest in
    let a = c.args in
    unite-all a.lows.now a.highs.now a.word l.invariant.0 l.rest l.invariant.2 l.low l.high l.invariant.3 l.invariant.1
    (omega (arith, c.loop-rest-test.false))
