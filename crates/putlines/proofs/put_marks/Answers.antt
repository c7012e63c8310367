-- `putlines::put_marks` meets its contract: what is left of the marks, stored from here on, gives the whole. Assumes nothing.
use Rattle.std.proofs.Common.{ℕ, ◌+◌, ◌-◌, ◌≤◌, ◌<◌, List, [], ◌∷◌, length, length-set, arith}
use Rattle.text.proofs.Writing.{Writing, said, room, stored, ended}
use Rattle.lines.specs.Format.{bits_of, marks}
use Rattle.putlines.proofs.Steps.{marks-next, marks-none, two}
use Rattle.putlines.proofs.put_marks.Goals as goal

-- there is room for the next mark
space : {out₀ out : List ℕ} {at p : ℕ} (f : ℕ → ℕ) (b n : ℕ) → b < n → at + length (marks f 0 n) ≤ length out₀
    → Writing out₀ at (marks f 0 n) out p (marks f b (n - b)) → p + 2 ≤ length out
space f b n h fits w = room (44 ∷ (48 + f b) ∷ []) (marks f (b + 1) (n - (b + 1))) (said (marks-next f b n h) w) fits

pub bounds-out-p : goal.bounds-out-p
bounds-out-p c = omega (arith, space (bits_of c.args.row) c.loop-b.b c.args.n (omega arith) c.requires.1 c.loop-b.invariant)

pub bounds-out-p-in-loop-b : goal.bounds-out-p-in-loop-b
bounds-out-p-in-loop-b c = rw length-set
    (omega (arith, space (bits_of c.args.row) c.loop-b.b c.args.n (omega arith) c.requires.1 c.loop-b.invariant))

pub loop-b-preserved : goal.loop-b-preserved
unfolding bits_of
loop-b-preserved c = let l = c.loop-b in
    let a = c.args in
    let w = said (marks-next (bits_of a.row) l.b a.n (omega arith)) l.invariant in
    stored (44 ∷ (48 + bits_of a.row l.b) ∷ []) (marks (bits_of a.row) (l.b + 1) (a.n - (l.b + 1))) w (two l.out l.p 44 _) (omega arith)

pub returns : goal.returns
returns c = let l = c.loop-b in
    let a = c.args in
    let w = ended (said (marks-none (bits_of a.row) l.b a.n (omega arith)) l.invariant) in record { stored = w.0; next = w.1 }
