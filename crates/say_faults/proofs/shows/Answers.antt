-- `say_faults::shows` meets its contract: an arm for each piece. Assumes nothing.
use Prim.Native.Nat.{ℕ, ◌<◌}
use mathlib.Core.Bool.{Bool, ◌&&◌}
use mathlib.Core.Path.{ap, ◌∙◌, subst}
use native.Mathlib.Omega.{arith}
use lib.Dec.{ltb}
use Rattle.theory.specs.Greedy.{reserved}
use Rattle.faults.specs.Faults.{clash_by}
use Rattle.site.specs.Record.{positions}
use Rattle.say_faults.specs.Said.{PieceOf}
use Rattle.say_faults.specs.declared.Piece.{Piece}
use Rattle.say_faults.proofs.Ready.{ready-sizes, ready-few, ready-row}
use Rattle.say_faults.proofs.shows.Goals as goal

pub shown_blocked-requires : goal.shown_blocked-requires
shown_blocked-requires c = (c.requires.0, rw c.in-AtBlocked.is at c.requires.2, c.requires.3)

pub overflow_mul-site : goal.overflow_mul-site
overflow_mul-site c = omega (arith, ready-few c.args.site c.args.table.now c.requires.0)

pub offset_bounds-clash-a : goal.offset_bounds-clash-a
offset_bounds-clash-a c =
    let within : (c.in-Clashing.k < positions c.args.site) × (c.in-Clashing.a < c.args.site.cells) = subst
    (λ (x : Piece). PieceOf c.args.site x) c.in-Clashing.is c.requires.2 in
    let cell-most : c.in-Clashing.a < 32 = omega (arith, within.1, (ready-sizes c.args.site c.args.table.now c.requires.0).cells_most) in
    omega (arith, cell-most)

pub bounds-clash-a : goal.bounds-clash-a
bounds-clash-a c =
    let within : (c.in-Clashing.k < positions c.args.site) × (c.in-Clashing.a < c.args.site.cells) = subst
    (λ (x : Piece). PieceOf c.args.site x) c.in-Clashing.is c.requires.2 in
    let cell-most : c.in-Clashing.a < 32 = omega (arith, within.1, (ready-sizes c.args.site c.args.table.now c.requires.0).cells_most) in
    cell-most

pub shown_clash-requires : goal.shown_clash-requires
shown_clash-requires c =
    let within : (c.in-Clashing.k < positions c.args.site) × (c.in-Clashing.a < c.args.site.cells) = subst
    (λ (x : Piece). PieceOf c.args.site x) c.in-Clashing.is c.requires.2 in
    let cell-most : c.in-Clashing.a < 32 = omega (arith, within.1, (ready-sizes c.args.site c.args.table.now c.requires.0).cells_most) in
    let site = c.args.site in
    let row = ready-row site c.args.table.now c.requires.0 in (
      within.0,
      ready-few site c.args.table.now c.requires.0,
      cell-most,
      omega (arith, c.requires.3, (ready-sizes site c.args.table.now c.requires.0).cells_most),
      row _ within.1,
      row c.args.i c.requires.3,
    )

pub returns-in-AtBlocked : goal.returns-in-AtBlocked
returns-in-AtBlocked c = rw c.in-AtBlocked.is c.shown_blocked.ensures

pub returns-in-Clashing : goal.returns-in-Clashing
unfolding clash_by
returns-in-Clashing c = let n = positions c.args.site in
    let t = c.args.table.now in
    let k = c.in-Clashing.k in
    let a = c.in-Clashing.a in
    let i = c.args.i in
    rw c.in-Clashing.is
    (c.shown_clash.ensures ∙ ap (λ (f : ℕ → ℕ → Bool). ltb a i && (reserved n t a k && (reserved n t i k && f a i))) c.requires.1)

pub returns-in-Miscounts : goal.returns-in-Miscounts
returns-in-Miscounts c = rw c.in-Miscounts.is c.shown_count.ensures
