-- `lines::read_columns` meets its contract: the columns so far are eaten, and those that stand from here on are what is left of the count. Assumes nothing.
use native.Mathlib.Omega.{arith}
use Prim.Native.Nat.{◌<◌}
use mathlib.Core.Path.{◌≡◌, refl, ◌∙◌}
use lib.ListN.{length}
use Rattle.lines.specs.Match.{nowhere, eaten}
use Rattle.lines.specs.Format.{cell_number, column}
use Rattle.lines.proofs.Heads.{column-eaten, columns-stop, columns-step, columns-place, columns-end, columns-full, columns-begin}
use Rattle.lines.proofs.read_columns.Goals as goal

pub loop-k-init : goal.loop-k-init
loop-k-init c = (columns-begin c.args.s.now (omega arith) c.args.at, refl)

pub returns-then-q : goal.returns-then-q
returns-then-q c =
    let shorter : length c.args.s.now < nowhere = omega arith in
    let looked : c.eat_number-q.result ≡ eaten c.args.s.now c.loop-k.p
    (column (cell_number c.loop-k.k)) = column-eaten _ shorter _ _ _ _ c.eat-comma.ensures c.eat_number-q.ensures in
    let n = columns-stop _ shorter c.loop-k.p c.loop-k.k _ (omega arith) looked c.if-q.true in
    columns-end _ shorter _ c.loop-k.p c.loop-k.k c.loop-k.invariant.0 c.loop-k.invariant.1 n

pub loop-k-preserved : goal.loop-k-preserved
loop-k-preserved c =
    let shorter : length c.args.s.now < nowhere = omega arith in
    let looked : c.eat_number-q.result ≡ eaten c.args.s.now c.loop-k.p
    (column (cell_number c.loop-k.k)) = column-eaten _ shorter _ _ _ _ c.eat-comma.ensures c.eat_number-q.ensures in (
      columns-place _ shorter _ c.loop-k.p c.loop-k.k _ c.loop-k.invariant.0 looked,
      columns-step _ shorter c.loop-k.p c.loop-k.k _ (omega arith) looked c.if-q.false ∙ c.loop-k.invariant.1,
    )

pub returns : goal.returns
returns c =
    let shorter : length c.args.s.now < nowhere = omega arith in
    let full : 32 ≡ c.loop-k.k = omega arith in
    rw full (columns-end _ shorter _ c.loop-k.p c.loop-k.k c.loop-k.invariant.0 c.loop-k.invariant.1
    (columns-full _ shorter c.loop-k.p c.loop-k.k (omega arith)))
