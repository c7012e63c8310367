-- `stretches::subtract` meets its contract: before each turn the run is taken off the cells of the word below some k, and the rest has the others.
-- It gets smaller with each.
-- And the cells in need are those of what is left then. Assumes nothing.
use mathlib.Core.Path.{◌≡◌, refl, ap, ◌∙◌}
use mathlib.Core.Bool.{◌&&◌, not}
use Prim.Native.Nat.{ℕ, ◌+◌, ◌-◌, ◌*◌, ◌%◌, ◌^◌, ◌<◌, zero-le}
use native.Mathlib.Omega.{arith}
use lib.Count.{count_trailing_zeros, trailing_le}
use lib.Dec.{eqb}
use lib.ListN.{get_or, length-set}
use Rattle.laws.specs.Bits.{bit_at, word_of}
use Rattle.laws.specs.Choice.{pick}
use Rattle.laws.proofs.Bits.{one_shl}
use Rattle.laws.proofs.Upward.{walk_inside, walk_here, walk-off, walk-less}
use Rattle.stretches.proofs.Spends.{unspent, spent_all, not_yet, spent-more, need-more}
use Rattle.stretches.proofs.subtract.Goals as goal

pub loop-rest-init : goal.loop-rest-init
loop-rest-init c = let a = c.args in
    let u = unspent a.left.now a.word a.run a.cells (omega arith) in
    (0, zero-le, refl, u.0, u.1, c.requires.need_value)

pub overflow_cast-i : goal.overflow_cast-i
overflow_cast-i c = omega (arith, trailing_le 32 c.loop-rest.rest)

pub offset_bounds-left-i : goal.offset_bounds-left-i
offset_bounds-left-i c =
    let inside : count_trailing_zeros 32 c.loop-rest.rest < c.args.cells = let a = c.args in
    let l = c.loop-rest in
    walk_inside (bit_at a.word) a.cells l.invariant.0 l.rest l.invariant.4 (λ e. omega (arith, c.loop-rest-test.true)) (omega arith) in
    omega (arith, inside)

pub bounds-left-i : goal.bounds-left-i
bounds-left-i c =
    let inside : count_trailing_zeros 32 c.loop-rest.rest < c.args.cells = let a = c.args in
    let l = c.loop-rest in
    walk_inside (bit_at a.word) a.cells l.invariant.0 l.rest l.invariant.4 (λ e. omega (arith, c.loop-rest-test.true)) (omega arith) in
    omega (arith, inside, c.loop-rest.invariant.2)

pub overflow_sub-has : goal.overflow_sub-has
overflow_sub-has c =
    let inside : count_trailing_zeros 32 c.loop-rest.rest < c.args.cells = let a = c.args in
    let l = c.loop-rest in
    walk_inside (bit_at a.word) a.cells l.invariant.0 l.rest l.invariant.4 (λ e. omega (arith, c.loop-rest-test.true)) (omega arith) in
    let l = c.loop-rest in
    let some : l.rest ≡ 0 → ⊥ = λ e. omega (arith, c.loop-rest-test.true) in
    let here = walk_here (bit_at c.args.word) c.args.cells l.invariant.0 l.rest l.invariant.4 some c.requires.cells_bound.0 in
    omega (
      arith,
      not_yet c.args.left.now c.args.word c.args.run c.args.cells l.invariant.0 l.rest l.left l.invariant.3 l.invariant.4 some c.requires.cells_bound.0,
      c.requires.by_index (count_trailing_zeros 32 l.rest) inside here,
    )

pub overflow_cast-has : goal.overflow_cast-has
overflow_cast-has c =
    let inside : count_trailing_zeros 32 c.loop-rest.rest < c.args.cells = let a = c.args in
    let l = c.loop-rest in
    walk_inside (bit_at a.word) a.cells l.invariant.0 l.rest l.invariant.4 (λ e. omega (arith, c.loop-rest-test.true)) (omega arith) in
    let l = c.loop-rest in
    let some : l.rest ≡ 0 → ⊥ = λ e. omega (arith, c.loop-rest-test.true) in
    let here = walk_here (bit_at c.args.word) c.args.cells l.invariant.0 l.rest l.invariant.4 some c.requires.cells_bound.0 in
    omega (
      arith,
      not_yet c.args.left.now c.args.word c.args.run c.args.cells l.invariant.0 l.rest l.left l.invariant.3 l.invariant.4 some c.requires.cells_bound.0,
      c.requires.by_index (count_trailing_zeros 32 l.rest) inside here,
    )

pub offset_bounds-left-i-in-loop-rest : goal.offset_bounds-left-i-in-loop-rest
offset_bounds-left-i-in-loop-rest c =
    let inside : count_trailing_zeros 32 c.loop-rest.rest < c.args.cells = let a = c.args in
    let l = c.loop-rest in
    walk_inside (bit_at a.word) a.cells l.invariant.0 l.rest l.invariant.4 (λ e. omega (arith, c.loop-rest-test.true)) (omega arith) in
    omega (arith, inside)

pub bounds-left-i-in-loop-rest : goal.bounds-left-i-in-loop-rest
bounds-left-i-in-loop-rest c =
    let inside : count_trailing_zeros 32 c.loop-rest.rest < c.args.cells = let a = c.args in
    let l = c.loop-rest in
    walk_inside (bit_at a.word) a.cells l.invariant.0 l.rest l.invariant.4 (λ e. omega (arith, c.loop-rest-test.true)) (omega arith) in
    omega (arith, inside, c.loop-rest.invariant.2)

pub overflow_cast-i-in-loop-rest : goal.overflow_cast-i-in-loop-rest
overflow_cast-i-in-loop-rest c =
    let inside : count_trailing_zeros 32 c.loop-rest.rest < c.args.cells = let a = c.args in
    let l = c.loop-rest in
    walk_inside (bit_at a.word) a.cells l.invariant.0 l.rest l.invariant.4 (λ e. omega (arith, c.loop-rest-test.true)) (omega arith) in
    omega (arith, inside)

pub overflow_shl-i : goal.overflow_shl-i
overflow_shl-i c =
    let inside : count_trailing_zeros 32 c.loop-rest.rest < c.args.cells = let a = c.args in
    let l = c.loop-rest in
    walk_inside (bit_at a.word) a.cells l.invariant.0 l.rest l.invariant.4 (λ e. omega (arith, c.loop-rest-test.true)) (omega arith) in
    omega (arith, inside)

pub overflow_sub-rest : goal.overflow_sub-rest
overflow_sub-rest c = omega (arith, c.loop-rest-test.true)

pub loop-rest-smaller : goal.loop-rest-smaller
loop-rest-smaller c = let a = c.args in
    let l = c.loop-rest in
    walk-less (bit_at a.word) a.cells l.invariant.0 l.rest l.invariant.4 (λ e. omega (arith, c.loop-rest-test.true)) (omega arith)

pub loop-rest-preserved : goal.loop-rest-preserved
loop-rest-preserved c =
    let inside : count_trailing_zeros 32 c.loop-rest.rest < c.args.cells = let a = c.args in
    let l = c.loop-rest in
    walk_inside (bit_at a.word) a.cells l.invariant.0 l.rest l.invariant.4 (λ e. omega (arith, c.loop-rest-test.true)) (omega arith) in
    let a = c.args in
    let l = c.loop-rest in
    let v : ℕ = get_or l.left (count_trailing_zeros 32 l.rest) 0 - a.run in
    let some : l.rest ≡ 0 → ⊥ = λ e. omega (arith, c.loop-rest-test.true) in
    let bit : 1 * 2 ^ count_trailing_zeros 32 l.rest % 4294967296 ≡ 2 ^ count_trailing_zeros 32 l.rest
    = one_shl (count_trailing_zeros 32 l.rest) (omega (arith, inside)) in (
      count_trailing_zeros 32 l.rest + 1,
      omega (arith, inside),
      length-set l.left (count_trailing_zeros 32 l.rest) v ∙ l.invariant.2,
      spent-more a.left.now a.word a.run a.cells l.invariant.0 l.rest l.left l.invariant.3 l.invariant.4 some (omega arith)
          v refl,
      walk-off (bit_at a.word) a.cells l.invariant.0 l.rest l.invariant.4 some (omega arith),
      need-more l.left a.cells l.still a.run (count_trailing_zeros 32 l.rest) v (omega arith) (omega (arith, l.invariant.2)) inside
          l.invariant.5 refl c.apart-still.result
          (c.apart-still.ensures.0
          ∙ ap (λ x. word_of (λ b. bit_at l.still b && not (bit_at x b)) 32) (c.emptied.ensures ∙ ap (λ x. pick (eqb v 0) x 0) bit))
          c.apart-still.ensures.1,
    )

pub shape_of-left : goal.shape_of-left
shape_of-left c = c.loop-rest.invariant.2

pub returns : goal.returns
returns c = let a = c.args in
    let l = c.loop-rest in
    let all = spent_all a.left.now a.word a.run a.cells l.invariant.0 l.rest l.left l.invariant.3 l.invariant.4
    (omega (arith, c.loop-rest-test.false)) l.invariant.1 in record { left = all; need = l.invariant.5 }
