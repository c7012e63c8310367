-- `escaping::is_four` meets its contract: a case for each way out. Assumes nothing.
use mathlib.Core.Path.{sym, ◌∙◌}
use mathlib.Core.Path.{◌≡◌}
use mathlib.Core.Bool.{true}
use Rattle.escaping.specs.Letters.{is_second, is_four, between}
use Rattle.escaping.proofs.is_four.Goals as goal

pub returns-then-not-is_between : goal.returns-then-not-is_between
unfolding is_four
returns-then-not-is_between c = rw (sym c.is_between.ensures ∙ c.if-not-is_between.true)

pub returns-then-not-is_second : goal.returns-then-not-is_second
unfolding is_four
returns-then-not-is_second c =
    let first : between 240 c.args.a 245 ≡ true = sym c.is_between.ensures ∙ c.if-not-is_between.false in
    rw (first, sym c.is_second.ensures ∙ c.if-not-is_second.true)

pub returns-then-is_between : goal.returns-then-is_between
unfolding is_four
returns-then-is_between c =
    let first : between 240 c.args.a 245 ≡ true = sym c.is_between.ensures ∙ c.if-not-is_between.false in
    let second : is_second c.args.a c.args.b ≡ true = sym c.is_second.ensures ∙ c.if-not-is_second.false in
    rw (first, second, sym c.is_between-2.ensures ∙ c.if-is_between.true) c.is_between-then-is_between.ensures

pub returns : goal.returns
unfolding is_four
returns c =
    let first : between 240 c.args.a 245 ≡ true = sym c.is_between.ensures ∙ c.if-not-is_between.false in
    let second : is_second c.args.a c.args.b ≡ true = sym c.is_second.ensures ∙ c.if-not-is_second.false in
    rw (first, second, sym c.is_between-2.ensures ∙ c.if-is_between.false)
