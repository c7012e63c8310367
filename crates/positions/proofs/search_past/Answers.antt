-- `positions::search_past` meets its contract: the lowest from a word on is the lowest from n on. Assumes nothing.
use Prim.Native.Nat.{◌+◌, ◌*◌, ◌/◌, ◌%◌, max}
use mathlib.Core.Path.{◌≡◌, sym, ap, ◌∙◌}
use native.Mathlib.Omega.{arith}
use lib.ListN.{get_or}
use Rattle.laws.specs.Bits.{bit_at}
use Rattle.laws.specs.Search.{first}
use Rattle.laws.proofs.Search.{first-end}
use Rattle.positions.specs.Blocked.{most_positions, blocked_at, first_past}
use Rattle.positions.proofs.Sets.{found_here, none_here}
use Rattle.positions.proofs.search_past.Goals as goal

pub loop-j-init : goal.loop-j-init
loop-j-init c = let e : max c.args.n (64 * (c.args.n / 64)) ≡ c.args.n = omega arith in (omega arith, ap (first_past c.args.set.now) e)

pub returns-then-b-lt64 : goal.returns-then-b-lt64
returns-then-b-lt64 c = let a = c.args in
    let j = c.loop-j.j in
    let k = max a.n (64 * j) in
    let word : k / 64 ≡ j = omega (arith, c.loop-j.auto.j, c.loop-j-test.true) in
    let bit : k % 64 ≡ c.saturating_sub.result = omega (arith, word, c.saturating_sub.ensures) in
    let is : c.lowest_from-b.result ≡ first (bit_at (get_or a.set.now (k / 64) 0)) (k % 64) (k % 64 + 64) = rw (word, bit) c.lowest_from-b.ensures in
    let e : 64 * j + c.lowest_from-b.result ≡ k / 64 * 64 + c.lowest_from-b.result = omega (arith, word) in
    e ∙ found_here a.set.now k (omega (arith, word, c.loop-j-test.true)) c.lowest_from-b.result is c.if-b-lt64.true ∙ c.loop-j.invariant.1

pub loop-j-preserved : goal.loop-j-preserved
loop-j-preserved c = let a = c.args in
    let j = c.loop-j.j in
    let k = max a.n (64 * j) in
    let word : k / 64 ≡ j = omega (arith, c.loop-j.auto.j, c.loop-j-test.true) in
    let bit : k % 64 ≡ c.saturating_sub.result = omega (arith, word, c.saturating_sub.ensures) in
    let is : c.lowest_from-b.result ≡ first (bit_at (get_or a.set.now (k / 64) 0)) (k % 64) (k % 64 + 64) = rw (word, bit) c.lowest_from-b.ensures in
    let e : max a.n (64 * (j + 1)) ≡ k / 64 * 64 + 64 = omega (arith, word, c.loop-j.auto.j) in (
      omega (arith, c.loop-j-test.true),
      ap (first_past a.set.now) e
          ∙ none_here a.set.now k (omega (arith, word, c.loop-j-test.true)) c.lowest_from-b.result is (omega (arith, c.if-b-lt64.false))
          ∙ c.loop-j.invariant.1,
    )

pub returns : goal.returns
returns c = let a = c.args in
    let e : c.max.result ≡ max a.n (64 * c.loop-j.j) = omega (arith, c.max.ensures, c.loop-j-test.false, c.loop-j.invariant.0) in
    e ∙ sym (first-end (blocked_at a.set.now) (max a.n (64 * c.loop-j.j)) most_positions (omega (arith, c.loop-j-test.false)))
    ∙ c.loop-j.invariant.1
