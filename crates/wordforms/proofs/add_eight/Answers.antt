-- `wordforms::add_eight` meets its contract: before piece q, the words of the pieces below q are joined. Assumes nothing.
use mathlib.Core.Path.{◌≡◌, refl, ◌∙◌}
use Prim.Native.Nat.{◌+◌, ◌-◌, ◌*◌, ◌/◌}
use native.Mathlib.Omega.{arith}
use Rattle.laws.proofs.Stores.{sets-none}
use Rattle.wordforms.proofs.Rows.{piece-more}
use Rattle.wordforms.proofs.add_eight.Goals as goal

pub loop-q-init : goal.loop-q-init
loop-q-init c = (omega arith, refl, sets-none _ _)

pub add_piece-requires : goal.add_piece-requires
add_piece-requires c = (omega arith, omega arith, omega arith, omega arith, omega arith)

pub loop-q-preserved : goal.loop-q-preserved
loop-q-preserved c = let l = c.loop-q in
    let a = c.args in
    let next : 64 * l.q + 64 ≡ 64 * (l.q + 1) = omega arith in (
      omega arith,
      c.add_piece.auto.words ∙ l.invariant.1,
      rw next at (piece-more a.n a.i (64 * l.q) 64 a.table.now a.words.now l.words c.add_piece.new.words l.invariant.2
          c.add_piece.ensures),
    )

pub add_piece-requires-2 : goal.add_piece-requires-2
add_piece-requires-2 c = (omega arith, omega arith, omega arith, omega arith, omega arith)

pub shape_of-words : goal.shape_of-words
shape_of-words c = c.add_piece-2.auto.words ∙ c.loop-q.invariant.1

pub returns : goal.returns
returns c = let l = c.loop-q in
    let a = c.args in
    let all : l.q ≡ a.n / 64 = omega (arith, c.loop-q-test.false, l.invariant.0) in
    let end : 64 * (a.n / 64) + (a.n - 64 * (a.n / 64)) ≡ a.n = omega arith in
    rw end at (piece-more a.n a.i (64 * (a.n / 64)) (a.n - 64 * (a.n / 64)) a.table.now a.words.now l.words c.add_piece-2.new.words
    (rw all at l.invariant.2) c.add_piece-2.ensures)
