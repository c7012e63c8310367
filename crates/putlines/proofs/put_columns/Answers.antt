-- `putlines::put_columns` meets its contract: what is left of the columns, stored from here on, gives the whole. Assumes nothing.
use Rattle.std.proofs.Common.{ℕ, ◌+◌, ◌-◌, ◌≤◌, ◌<◌, List, ◌∙◌, length, length-set, arith}
use Rattle.text.proofs.Writing.{Writing, said, room, stored, ended}
use Rattle.text.specs.Decimal.{decimal}
use Rattle.lines.specs.Format.{column, columns}
use Rattle.putlines.proofs.Steps.{columns-next, columns-none, one-run}
use Rattle.putlines.proofs.put_columns.Goals as goal

-- there is room for the next column
space : {out₀ out : List ℕ} {at p : ℕ} (k n : ℕ) → k < n → at + length (columns 0 n) ≤ length out₀
    → Writing out₀ at (columns 0 n) out p (columns k (n - k)) → p + (1 + length (decimal (k + 1))) ≤ length out
unfolding column
space k n h fits w = omega (arith, room (column (k + 1)) (columns (k + 1) (n - (k + 1))) (said (columns-next k n h) w) fits)

pub bounds-out-p : goal.bounds-out-p
bounds-out-p c = omega (arith, space c.loop-k.k c.args.n (omega arith) c.requires.1 c.loop-k.invariant)

pub put_few-p-requires : goal.put_few-p-requires
put_few-p-requires c =
    (omega arith, rw length-set (omega (arith, space c.loop-k.k c.args.n (omega arith) c.requires.1 c.loop-k.invariant)))

pub loop-k-preserved : goal.loop-k-preserved
unfolding column
loop-k-preserved c = let l = c.loop-k in
    let w = said (columns-next l.k c.args.n (omega arith)) l.invariant in
    stored (column (l.k + 1)) (columns (l.k + 1) (c.args.n - (l.k + 1))) w (c.put_few-p.ensures.stored ∙ one-run l.out l.p 44 (decimal (l.k + 1)))
    (c.put_few-p.ensures.next ∙ omega arith)

pub returns : goal.returns
returns c = let l = c.loop-k in
    let w = ended (said (columns-none l.k c.args.n (omega arith)) l.invariant) in record { stored = w.0; next = w.1 }
