-- `escaping::letter_size` meets its contract: a case for each way out. Assumes nothing.
use mathlib.Core.Path.{sym, ◌∙◌}
use mathlib.Core.Path.{◌≡◌}
use mathlib.Core.Bool.{false}
use Rattle.escaping.specs.Letters.{is_one, is_two, is_three, letter_size}
use Rattle.escaping.proofs.letter_size.Goals as goal

pub returns-then-is_one : goal.returns-then-is_one
unfolding letter_size
returns-then-is_one c = rw (sym c.is_one.ensures ∙ c.if-is_one.true)

pub returns-then-is_two : goal.returns-then-is_two
unfolding letter_size
returns-then-is_two c =
    let not-one : is_one c.args.a ≡ false = sym c.is_one.ensures ∙ c.if-is_one.false in
    rw (not-one, sym c.is_two.ensures ∙ c.if-is_two.true)

pub returns-then-is_three : goal.returns-then-is_three
unfolding letter_size
returns-then-is_three c =
    let not-one : is_one c.args.a ≡ false = sym c.is_one.ensures ∙ c.if-is_one.false in
    let not-two : is_two c.args.a c.args.b ≡ false = sym c.is_two.ensures ∙ c.if-is_two.false in
    rw (not-one, not-two, sym c.is_three.ensures ∙ c.if-is_three.true)

pub returns-then-is_four : goal.returns-then-is_four
unfolding letter_size
returns-then-is_four c =
    let not-one : is_one c.args.a ≡ false = sym c.is_one.ensures ∙ c.if-is_one.false in
    let not-two : is_two c.args.a c.args.b ≡ false = sym c.is_two.ensures ∙ c.if-is_two.false in
    let not_three : is_three c.args.a c.args.b c.args.c ≡ false = sym c.is_three.ensures ∙ c.if-is_three.false in
    rw (not-one, not-two, not_three, sym c.is_four.ensures ∙ c.if-is_four.true)

pub returns : goal.returns
unfolding letter_size
returns c =
    let not-one : is_one c.args.a ≡ false = sym c.is_one.ensures ∙ c.if-is_one.false in
    let not-two : is_two c.args.a c.args.b ≡ false = sym c.is_two.ensures ∙ c.if-is_two.false in
    let not_three : is_three c.args.a c.args.b c.args.c ≡ false = sym c.is_three.ensures ∙ c.if-is_three.false in
    rw (not-one, not-two, not_three, sym c.is_four.ensures ∙ c.if-is_four.false)
