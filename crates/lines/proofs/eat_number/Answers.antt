-- `lines::eat_number` meets its contract: one digit, the tens and then the ones, or the longer way. Assumes nothing.
use Prim.Native.Nat.{ℕ, ◌+◌, ◌/◌, ◌%◌}
use mathlib.Core.List.{[], ◌∷◌}
use mathlib.Core.Path.{sym, ap, ◌∙◌}
use native.Mathlib.Omega.{arith}
use Rattle.text.specs.Decimal.{decimal}
use Rattle.text.proofs.Digits.{decimal-one, decimal-more}
use Rattle.lines.specs.Match.{eaten}
use Rattle.lines.proofs.Match.{eaten-append}
use Rattle.lines.proofs.eat_number.Goals as goal

pub returns-then-x-gt9 : goal.returns-then-x-gt9
returns-then-x-gt9 c = let a = c.args in
    c.eat.ensures
    ∙ ap (λ (k : ℕ). eaten a.s.now k ((48 + a.x % 10) ∷ [])) c.eat-tens.ensures
    ∙ ap (λ (k : ℕ). eaten a.s.now k ((48 + a.x % 10) ∷ [])) (ap (eaten a.s.now a.at) (sym (decimal-one (a.x / 10) (omega arith))))
    ∙ eaten-append a.s.now a.at (decimal (a.x / 10)) ((48 + a.x % 10) ∷ []) (omega arith)
    ∙ ap (eaten a.s.now a.at) (sym (decimal-more a.x (omega arith)))

pub returns : goal.returns
returns c = let a = c.args in
    c.eat-2.ensures ∙ ap (eaten a.s.now a.at) (sym (decimal-one a.x (omega arith)))
