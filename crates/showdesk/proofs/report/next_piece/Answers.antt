-- `showdesk::report::next_piece` meets its contract: of 10,000 bytes a piece has all but three or more. Assumes nothing.
use Rattle.std.proofs.Common.{◌≡◌, ◌≤◌, length, take, ℕ, List}
use mathlib.Core.Path.{sym}
use native.Mathlib.Omega.{arith}
use Rattle.std.proofs.lemmas.List.{length-take-le}
use Rattle.showdesk.proofs.report.next_piece.Goals as goal

-- of a longer text so much is taken
taken : (t : List ℕ) → 10000 ≤ length t → length (take 10000 t) ≡ 10000
taken t h = length-take-le 10000 t h

pub slice_bounds-whole_part-end : goal.slice_bounds-whole_part-end
slice_bounds-whole_part-end c = sym (taken c.args.text.now (omega (arith, c.if-text-le-PIECE.false)))

pub returns-clause-some : goal.returns-clause-some
returns-clause-some c =
    let e = taken c.args.text.now (omega (arith, c.if-text-le-PIECE.false)) in
    omega (arith, e, c.whole_part.ensures.most)

pub returns-clause-inside : goal.returns-clause-inside
returns-clause-inside c =
    let e = taken c.args.text.now (omega (arith, c.if-text-le-PIECE.false)) in
    omega (arith, e, c.whole_part.ensures.inside, c.if-text-le-PIECE.false)

pub returns-clause-few : goal.returns-clause-few
returns-clause-few c =
    let e = taken c.args.text.now (omega (arith, c.if-text-le-PIECE.false)) in
    omega (arith, e, c.whole_part.ensures.inside)
