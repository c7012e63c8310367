-- `numberrows::all_clash` meets its contract: a walk over the cells of `near`, of which those passed miss none. Assumes nothing.
use mathlib.Core.Path.{◌≡◌, sym, ap, ap₂, ◌∙◌}
use mathlib.Core.Bool.{false, ◌&&◌, not, and-false}
use mathlib.Core.List.{List}
use mathlib.Core.Logic.{◌⊎◌, ⊎_elim}
use Prim.Native.Nat.{ℕ, ◌+◌, ◌≤◌, ◌<◌, ◌^◌}
use native.Mathlib.Omega.{arith}
use native.Mathlib.Nat.{not-suc-le-zero}
use lib.Count.{count_trailing_zeros, trailing_le}
use lib.ListN.{get_or}
use borrow.Author.Tests.{le-leb}
use Rattle.laws.specs.Bits.{bit_at, word_of}
use Rattle.laws.proofs.Any.{any_here, none_any}
use Rattle.laws.proofs.Choice.{order}
use Rattle.laws.proofs.Upward.{from_on, walk-done, walk_inside, walk_here, walk-passed, walk-off, walk-less}
use Rattle.laws.proofs.Words.{word-bits, word-eq}
use Rattle.numberrows.specs.Words.{misses_in, close_in}
use borrow.Author.Rules.{rules}
use Rattle.numberrows.proofs.all_clash.Invariants.{test}
use Rattle.numberrows.proofs.all_clash.Goals as goal

from_on-law : (j k : ℕ) → (j ≡ k) ⊎ (k < j) → k ≤ j
from_on-law j k o = ⊎_elim (λ e. omega arith) (λ g. omega arith) o

-- a turn: the cells passed over are not in the word, and the one looked at misses none
turn : (rows : List ℕ) (near k rest : ℕ) → rest ≡ word_of (from_on (bit_at near) k) 32 → (rest ≡ 0 → ⊥) → ((j : ℕ) → j < k → test rows near j ≡ false)
    → misses_in near (get_or rows (count_trailing_zeros 32 rest) 0) (count_trailing_zeros 32 rest) ≡ false
    → (j : ℕ) → j < count_trailing_zeros 32 rest + 1 → test rows near j ≡ false
turn rows near k rest is some done none j l = ⊎_elim before (⊎_elim here (λ o. absurd (omega arith))) (order j (count_trailing_zeros 32 rest))
  where
    before : j < count_trailing_zeros 32 rest → test rows near j ≡ false
    before h =
        ⊎_elim (done j)
        (λ o. ap (λ t. t && misses_in near (get_or rows j 0) j) (walk-passed (bit_at near) 32 k rest is some (omega arith) j (from_on-law j k o) h))
        (order j k)

    here : j ≡ count_trailing_zeros 32 rest → test rows near j ≡ false
    here e = ap (λ (x : ℕ). bit_at near j && misses_in near (get_or rows x 0) x) e ∙ ap (λ t. bit_at near j && t) none ∙ and-false (bit_at near j)

pub loop-rest-init : goal.loop-rest-init
loop-rest-init c =
    let small : c.args.near < 2 ^ 32 = search rules in
    let near = c.args.near in (
      0,
      omega arith,
      word-bits near 32 small
          ∙ word-eq (bit_at near) (from_on (bit_at near) 0) 32 (λ j l. ap (λ t. t && bit_at near j) (sym (le-leb 0 j (omega arith)))),
      λ j l. absurd (not-suc-le-zero l),
    )

pub overflow_cast-a : goal.overflow_cast-a
overflow_cast-a c = omega (arith, trailing_le 32 c.loop-rest.rest)

pub offset_bounds-rows-a : goal.offset_bounds-rows-a
offset_bounds-rows-a c =
    let some : c.loop-rest.rest ≡ 0 → ⊥ = λ e. omega (arith, c.loop-rest-test.true) in
    let inside : count_trailing_zeros 32 c.loop-rest.rest < 32 = let l = c.loop-rest in
    walk_inside (bit_at c.args.near) 32 l.invariant.0 l.rest l.invariant.2 some (omega arith) in
    omega (arith, inside)

pub bounds-rows-a : goal.bounds-rows-a
bounds-rows-a c =
    let some : c.loop-rest.rest ≡ 0 → ⊥ = λ e. omega (arith, c.loop-rest-test.true) in
    let inside : count_trailing_zeros 32 c.loop-rest.rest < 32 = let l = c.loop-rest in
    walk_inside (bit_at c.args.near) 32 l.invariant.0 l.rest l.invariant.2 some (omega arith) in
    omega (arith, inside)

pub misses-requires : goal.misses-requires
misses-requires c =
    let some : c.loop-rest.rest ≡ 0 → ⊥ = λ e. omega (arith, c.loop-rest-test.true) in
    let inside : count_trailing_zeros 32 c.loop-rest.rest < 32 = let l = c.loop-rest in
    walk_inside (bit_at c.args.near) 32 l.invariant.0 l.rest l.invariant.2 some (omega arith) in
    omega (arith, inside)

pub returns-then-misses : goal.returns-then-misses
unfolding close_in
returns-then-misses c =
    let some : c.loop-rest.rest ≡ 0 → ⊥ = λ e. omega (arith, c.loop-rest-test.true) in
    let inside : count_trailing_zeros 32 c.loop-rest.rest < 32 = let l = c.loop-rest in
    walk_inside (bit_at c.args.near) 32 l.invariant.0 l.rest l.invariant.2 some (omega arith) in
    let l = c.loop-rest in
    let args = c.args in
    let here = walk_here (bit_at args.near) 32 l.invariant.0 l.rest l.invariant.2 some (omega arith) in
    sym (ap not (any_here (test args.rows.now args.near) 32 (count_trailing_zeros 32 l.rest) inside
    (ap₂ ◌&&◌ here (sym c.misses.ensures ∙ c.if-misses.true))))

pub overflow_sub-rest : goal.overflow_sub-rest
overflow_sub-rest c = omega (arith, c.loop-rest-test.true)

pub loop-rest-smaller : goal.loop-rest-smaller
loop-rest-smaller c =
    let some : c.loop-rest.rest ≡ 0 → ⊥ = λ e. omega (arith, c.loop-rest-test.true) in
    let l = c.loop-rest in
    walk-less (bit_at c.args.near) 32 l.invariant.0 l.rest l.invariant.2 some (omega arith)

pub loop-rest-preserved : goal.loop-rest-preserved
loop-rest-preserved c =
    let some : c.loop-rest.rest ≡ 0 → ⊥ = λ e. omega (arith, c.loop-rest-test.true) in
    let inside : count_trailing_zeros 32 c.loop-rest.rest < 32 = let l = c.loop-rest in
    walk_inside (bit_at c.args.near) 32 l.invariant.0 l.rest l.invariant.2 some (omega arith) in
    let l = c.loop-rest in
    let args = c.args in (
      count_trailing_zeros 32 l.rest + 1,
      omega (arith, inside),
      walk-off (bit_at args.near) 32 l.invariant.0 l.rest l.invariant.2 some (omega arith),
      turn args.rows.now args.near l.invariant.0 l.rest l.invariant.2 some l.invariant.3 (sym c.misses.ensures ∙ c.if-misses.false),
    )

pub returns : goal.returns
unfolding close_in
returns c = let l = c.loop-rest in
    let args = c.args in
    let done = walk-done (bit_at args.near) 32 l.invariant.0 l.rest l.invariant.2 (omega (arith, c.loop-rest-test.false)) in
    sym (ap not (none_any (test args.rows.now args.near) 32 (λ j h.
    ⊎_elim (l.invariant.3 j) (λ o. ap (λ t. t && misses_in args.near (get_or args.rows.now j 0) j) (done j (from_on-law j l.invariant.0 o) h))
    (order j l.invariant.0))))
