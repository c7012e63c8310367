-- `say_find::several` meets its contract: past the lowest cell the search goes on; an empty set has no other. Assumes nothing.
use mathlib.Core.Path.{sym, ap, ◌∙◌}
use Prim.Native.Nat.{◌+◌}
use native.Mathlib.Omega.{arith}
use lib.Dec.{ltb}
use borrow.Author.Tests.{le-ltb}
use Rattle.laws.specs.Bits.{bit_at}
use Rattle.laws.specs.Search.{first}
use Rattle.laws.proofs.Search.{first-least}
use Rattle.finds.specs.Last.{lowest_of, several_in}
use Rattle.say_find.proofs.several.Goals as goal

pub returns-then-low-lt32 : goal.returns-then-low-lt32
unfolding several_in
returns-then-low-lt32 c = let x = c.args.set in
    ap (λ k. ltb k 32) (c.lowest.ensures ∙ ap (λ k. first (bit_at x) (k + 1) 32) c.lowest-low.ensures)

pub returns : goal.returns
unfolding several_in
returns c = let x = c.args.set in
    let e = c.lowest-low.ensures in
    sym (le-ltb (first (bit_at x) (lowest_of x + 1) 32) 32 (omega (arith, e, c.if-low-lt32.false, first-least (bit_at x) (lowest_of x + 1) 32)))
