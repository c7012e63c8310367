-- `stretches::stretch_of` meets its contract: before each turn the cells below some i had theirs, and the rest has all that are open (proofs/Turns.antt).
-- The rest gets smaller with each. Assumes nothing.
use mathlib.Core.Path.{◌≡◌, sym, ◌∙◌}
use mathlib.Core.Bool.{false, ◌&&◌, not}
use Prim.Native.Nat.{◌+◌, ◌*◌, ◌%◌, ◌^◌, ◌<◌, zero-le}
use native.Mathlib.Omega.{arith}
use lib.Count.{count_trailing_zeros, trailing_le}
use Rattle.laws.specs.Bits.{bit_at}
use Rattle.laws.proofs.Bits.{one_shl}
use Rattle.laws.proofs.Upward.{walk_inside, walk-less}
use Rattle.stretches.proofs.Turns.{unturned, turned-all, turn_more, left-apart, less-apart, left-more}
use Rattle.stretches.proofs.stretch_of.Goals as goal

pub loop-rest-init : goal.loop-rest-init
loop-rest-init c = let a = c.args in
    let u = unturned a.clash.now a.left.now a.need a.most a.cells (omega arith) in
    (0, bit_at a.need, zero-le, u.0, u.1)

pub overflow_cast-i : goal.overflow_cast-i
overflow_cast-i c = omega (arith, trailing_le 32 c.loop-rest.rest)

pub has-requires : goal.has-requires
has-requires c =
    let some : c.loop-rest.rest ≡ 0 → ⊥ = λ e. omega (arith, c.loop-rest-test.true) in
    let inside : count_trailing_zeros 32 c.loop-rest.rest < c.args.cells = let l = c.loop-rest in
    walk_inside l.invariant.1 c.args.cells l.invariant.0 l.rest l.invariant.4.is-rest some (omega (arith, c.requires.0)) in
    omega (arith, inside)

pub loop-rest-smaller-then-has : goal.loop-rest-smaller-then-has
loop-rest-smaller-then-has c =
    let some : c.loop-rest.rest ≡ 0 → ⊥ = λ e. omega (arith, c.loop-rest-test.true) in
    let a = c.args in
    let l = c.loop-rest in
    less-apart a.clash.now a.left.now a.need a.most a.cells l.invariant.0 l.word l.run l.met l.rest l.invariant.1 l.invariant.3
    l.invariant.4 some (omega (arith, c.requires.0)) c.apart-rest.result (sym c.has.ensures ∙ c.if-has.true)
    c.apart-rest.ensures.0 c.apart-rest.ensures.1

pub loop-rest-preserved-then-has : goal.loop-rest-preserved-then-has
loop-rest-preserved-then-has c =
    let some : c.loop-rest.rest ≡ 0 → ⊥ = λ e. omega (arith, c.loop-rest-test.true) in
    let a = c.args in
    let l = c.loop-rest in (
      l.invariant.0,
      (λ b. l.invariant.1 b && not (bit_at l.met b)),
      l.invariant.2,
      l.invariant.3,
      left-apart a.clash.now a.left.now a.need a.most a.cells l.invariant.0 l.word l.run l.met l.rest l.invariant.1 l.invariant.3
          l.invariant.4 some (omega (arith, c.requires.0)) c.apart-rest.result c.apart-rest.ensures.0 c.apart-rest.ensures.1,
    )

pub offset_bounds-left-i : goal.offset_bounds-left-i
offset_bounds-left-i c =
    let some : c.loop-rest.rest ≡ 0 → ⊥ = λ e. omega (arith, c.loop-rest-test.true) in
    let inside : count_trailing_zeros 32 c.loop-rest.rest < c.args.cells = let l = c.loop-rest in
    walk_inside l.invariant.1 c.args.cells l.invariant.0 l.rest l.invariant.4.is-rest some (omega (arith, c.requires.0)) in
    omega (arith, inside)

pub bounds-left-i : goal.bounds-left-i
bounds-left-i c =
    let some : c.loop-rest.rest ≡ 0 → ⊥ = λ e. omega (arith, c.loop-rest-test.true) in
    let inside : count_trailing_zeros 32 c.loop-rest.rest < c.args.cells = let l = c.loop-rest in
    walk_inside l.invariant.1 c.args.cells l.invariant.0 l.rest l.invariant.4.is-rest some (omega (arith, c.requires.0)) in
    omega (arith, inside)

pub overflow_cast-word : goal.overflow_cast-word
overflow_cast-word c =
    let some : c.loop-rest.rest ≡ 0 → ⊥ = λ e. omega (arith, c.loop-rest-test.true) in
    let inside : count_trailing_zeros 32 c.loop-rest.rest < c.args.cells = let l = c.loop-rest in
    walk_inside l.invariant.1 c.args.cells l.invariant.0 l.rest l.invariant.4.is-rest some (omega (arith, c.requires.0)) in
    omega (arith, inside)

pub overflow_shl-word : goal.overflow_shl-word
overflow_shl-word c =
    let some : c.loop-rest.rest ≡ 0 → ⊥ = λ e. omega (arith, c.loop-rest-test.true) in
    let inside : count_trailing_zeros 32 c.loop-rest.rest < c.args.cells = let l = c.loop-rest in
    walk_inside l.invariant.1 c.args.cells l.invariant.0 l.rest l.invariant.4.is-rest some (omega (arith, c.requires.0)) in
    omega (arith, inside)

pub offset_bounds-clash-i : goal.offset_bounds-clash-i
offset_bounds-clash-i c =
    let some : c.loop-rest.rest ≡ 0 → ⊥ = λ e. omega (arith, c.loop-rest-test.true) in
    let inside : count_trailing_zeros 32 c.loop-rest.rest < c.args.cells = let l = c.loop-rest in
    walk_inside l.invariant.1 c.args.cells l.invariant.0 l.rest l.invariant.4.is-rest some (omega (arith, c.requires.0)) in
    omega (arith, inside)

pub bounds-clash-i : goal.bounds-clash-i
bounds-clash-i c =
    let some : c.loop-rest.rest ≡ 0 → ⊥ = λ e. omega (arith, c.loop-rest-test.true) in
    let inside : count_trailing_zeros 32 c.loop-rest.rest < c.args.cells = let l = c.loop-rest in
    walk_inside l.invariant.1 c.args.cells l.invariant.0 l.rest l.invariant.4.is-rest some (omega (arith, c.requires.0)) in
    omega (arith, inside)

pub overflow_sub-rest : goal.overflow_sub-rest
overflow_sub-rest c = omega (arith, c.loop-rest-test.true)

pub loop-rest-smaller : goal.loop-rest-smaller
loop-rest-smaller c =
    let some : c.loop-rest.rest ≡ 0 → ⊥ = λ e. omega (arith, c.loop-rest-test.true) in
    let l = c.loop-rest in
    walk-less l.invariant.1 c.args.cells l.invariant.0 l.rest l.invariant.4.is-rest some (omega (arith, c.requires.0))

pub loop-rest-preserved : goal.loop-rest-preserved
loop-rest-preserved c =
    let some : c.loop-rest.rest ≡ 0 → ⊥ = λ e. omega (arith, c.loop-rest-test.true) in
    let inside : count_trailing_zeros 32 c.loop-rest.rest < c.args.cells = let l = c.loop-rest in
    walk_inside l.invariant.1 c.args.cells l.invariant.0 l.rest l.invariant.4.is-rest some (omega (arith, c.requires.0)) in
    let a = c.args in
    let l = c.loop-rest in
    let free : bit_at l.met (count_trailing_zeros 32 l.rest) ≡ false = sym c.has.ensures ∙ c.if-has.false in
    let bit : 1 * 2 ^ count_trailing_zeros 32 l.rest % 4294967296 ≡ 2 ^ count_trailing_zeros 32 l.rest
    = one_shl (count_trailing_zeros 32 l.rest) (omega (arith, inside, c.requires.0)) in (
      count_trailing_zeros 32 l.rest + 1,
      l.invariant.1,
      omega (arith, inside),
      rw bit
          (turn_more a.clash.now a.left.now a.need a.most a.cells l.invariant.0 l.word l.run l.met l.rest l.invariant.1 l.invariant.3
          l.invariant.4 some (omega (arith, c.requires.0)) free c.min-run.result c.min-run.ensures),
      left-more a.clash.now a.left.now a.need a.most a.cells l.invariant.0 l.word l.run l.met l.rest l.invariant.1 l.invariant.3
          l.invariant.4 some (omega (arith, c.requires.0)) free,
    )

pub returns : goal.returns
returns c = let a = c.args in
    let l = c.loop-rest in
    let t = turned-all a.clash.now a.left.now a.need a.most a.cells l.invariant.0 l.word l.run l.met l.rest l.invariant.1 l.invariant.3
    l.invariant.4 (omega (arith, c.loop-rest-test.false)) l.invariant.2 in record { word = t.taken; run = t.lasts }
