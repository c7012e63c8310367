-- `lines::eat_long` meets its contract: a mirror of `put_number`: the digits of the tenth part, then one more; to eat one text and then another is to eat
-- both. Assumes nothing.
use Prim.Native.Nat.{◌+◌, ◌/◌, ◌%◌, ℕ}
use mathlib.Core.List.{[], ◌∷◌}
use Rattle.text.specs.Decimal.{decimal}
use Rattle.lines.specs.Match.{eaten}
use native.Mathlib.Omega.{arith}
use mathlib.Core.Path.{sym, ap, ◌∙◌}
use Rattle.text.proofs.Digits.{decimal-one, decimal-more}
use Rattle.lines.proofs.Match.{eaten-append}
use Rattle.lines.proofs.+eat_long.Goals as goal

pub returns-then-x-lt10 : goal.returns-then-x-lt10
returns-then-x-lt10 t c = let a = c.args in
    c.eat.ensures ∙ ap (eaten a.s.now a.at) (sym (decimal-one a.x (omega arith)))

pub returns : goal.returns
returns t c = let a = c.args in
    let n = c.eat_long-last.ensures in
    let w = decimal (a.x / 10) in
    c.eat-2.ensures
    ∙ ap (λ (k : ℕ). eaten a.s.now k ((48 + a.x % 10) ∷ [])) n
    ∙ eaten-append a.s.now a.at w ((48 + a.x % 10) ∷ []) (omega arith)
    ∙ ap (eaten a.s.now a.at) (sym (decimal-more a.x (omega arith)))
