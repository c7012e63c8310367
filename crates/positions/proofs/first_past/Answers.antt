-- `positions::first_past-law` meets its contract: past the last, in an empty set, where none is joined, or by the search. Assumes nothing.
use mathlib.Core.Path.{◌≡◌, sym, ◌∙◌}
use mathlib.Core.Bool.{false}
use native.Mathlib.Omega.{arith}
use borrow.Author.Tests.{eq-eqb, not-true}
use Rattle.laws.proofs.Search.{first-end, first-none}
use Rattle.positions.specs.Blocked.{most_positions, blocked_at, any_in}
use Rattle.positions.proofs.Room.{none_past}
use Rattle.positions.proofs.first_past.Goals as goal

pub returns-then-n-ge-MOST : goal.returns-then-n-ge-MOST
returns-then-n-ge-MOST c = sym (first-end (blocked_at c.args.set.now) c.args.n most_positions (omega arith))

pub returns-then-joined-eq0 : goal.returns-then-joined-eq0
returns-then-joined-eq0 c = let call = c.joined in
    let a = c.args in
    let none : any_in a.set.now most_positions ≡ false
    = not-true (any_in a.set.now most_positions) (sym call.ensures ∙ eq-eqb call.result 0 (omega arith)) in
    sym (none_past a.set.now a.n (omega arith) none)

pub returns-then-joined_past-eq0 : goal.returns-then-joined_past-eq0
returns-then-joined_past-eq0 c = let call = c.joined_past in
    let a = c.args in
    sym (first-none (blocked_at a.set.now) a.n most_positions (omega arith) (call.ensures c.if-joined_past-eq0.true))
