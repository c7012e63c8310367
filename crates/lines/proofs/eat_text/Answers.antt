-- `lines::eat_text` meets its contract: what is left of the text, eaten from here on, gives the whole. Assumes nothing.
use Rattle.std.proofs.Common.{ℕ, ◌+◌, arith, ap, ◌∙◌, drop}
use Rattle.lines.specs.Match.{eaten}
use Rattle.lines.proofs.Steps.{text-next, text-end}
use Rattle.lines.proofs.eat_text.Goals as goal

pub loop-byte-preserved : goal.loop-byte-preserved
loop-byte-preserved c = let a = c.args in
    let i = c.loop-byte.byte-index in
    ap (λ (p : ℕ). eaten a.s.now p (drop (i + 1) a.text.now)) c.eat-p.ensures
    ∙ text-next a.s.now a.text.now c.loop-byte.p i (omega arith) (omega arith) ∙ c.loop-byte.invariant

pub returns : goal.returns
returns c = let l = c.loop-byte in
    text-end _ _ l.p l.byte-index (omega arith) ∙ l.invariant
