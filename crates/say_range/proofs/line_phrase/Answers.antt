-- `say_range::line_phrase` meets its contract: an arm for each line. Assumes nothing.
use Prim.Native.Nat.{ℕ, ◌+◌, ◌≤◌}
use mathlib.Core.Path.{◌≡◌, sym, ap, ◌∙◌}
use mathlib.Core.Bool.{Bool, true, false, ◌&&◌, not}
use native.Mathlib.Omega.{arith}
use lib.Dec.{ltb}
use Rattle.site.specs.Reach.{reaches}
use Rattle.drawing.specs.Range.{line_phrase, drawn_third}
use Rattle.drawing.proofs.Reach.{cell-most, bend-low}
use Rattle.say_range.proofs.line_phrase.Goals as goal

pub overflow_add-middle : goal.overflow_add-middle
overflow_add-middle c =
    let middle-few : c.cell_middle-from.result + c.cell_middle-to.result ≤ 54380 = omega (
      arith,
      c.cell_middle-from.ensures,
      c.cell_middle-to.ensures,
      cell-most c.args.site c.requires.0 c.args.a c.requires.2,
      cell-most c.args.site c.requires.0 c.args.b c.requires.3,
    ) in
    omega (arith, middle-few)

pub overflow_sub-result : goal.overflow_sub-result
overflow_sub-result c =
    let turn_low : c.bend-turn.result ≤ 220 = omega (arith, c.bend-turn.ensures, bend-low c.args.site c.requires.0 c.args.a c.args.b) in
    omega (arith, turn_low)

pub returns-then-both_ways : goal.returns-then-both_ways
unfolding line_phrase
returns-then-both_ways c = rw (sym c.both_ways.ensures ∙ c.if-both_ways.true, c.cell_middle-from.ensures, c.cell_middle-to.ensures, c.bend-turn.ensures)

pub overflow_add-result : goal.overflow_add-result
overflow_add-result c =
    let turn_low : c.bend-turn.result ≤ 220 = omega (arith, c.bend-turn.ensures, bend-low c.args.site c.requires.0 c.args.a c.args.b) in
    omega (arith, turn_low)

pub returns-then-one_way : goal.returns-then-one_way
unfolding line_phrase
returns-then-one_way c = rw (
  sym c.both_ways.ensures ∙ c.if-both_ways.false,
  sym c.one_way.ensures ∙ c.if-one_way.true,
  c.cell_middle-from.ensures,
  c.cell_middle-to.ensures,
  c.bend-turn.ensures,
)

pub overflow_sub-result-then-by_third : goal.overflow_sub-result-then-by_third
overflow_sub-result-then-by_third c =
    let turn_low : c.bend-turn.result ≤ 220 = omega (arith, c.bend-turn.ensures, bend-low c.args.site c.requires.0 c.args.a c.args.b) in
    omega (arith, turn_low)

pub returns-then-by_third : goal.returns-then-by_third
unfolding line_phrase
returns-then-by_third c =
    let third : (t : Bool) → c.by_third.result ≡ t → drawn_third c.args.site c.args.a c.args.b ≡ t = λ t e. let a = c.args.a in
    let b = c.args.b in
    sym (ap (λ (f : ℕ → ℕ → Bool). ltb a b && (not (reaches c.args.site.reach b a) && f a b)) c.requires.1)
    ∙ sym c.by_third.ensures ∙ e in
    rw (
      sym c.both_ways.ensures ∙ c.if-both_ways.false,
      sym c.one_way.ensures ∙ c.if-one_way.false,
      third true c.if-by_third.true,
      c.cell_middle-from.ensures,
      c.cell_middle-to.ensures,
      c.bend-turn.ensures,
    )

pub returns : goal.returns
unfolding line_phrase
returns c =
    let third : (t : Bool) → c.by_third.result ≡ t → drawn_third c.args.site c.args.a c.args.b ≡ t = λ t e. let a = c.args.a in
    let b = c.args.b in
    sym (ap (λ (f : ℕ → ℕ → Bool). ltb a b && (not (reaches c.args.site.reach b a) && f a b)) c.requires.1)
    ∙ sym c.by_third.ensures ∙ e in
    rw (sym c.both_ways.ensures ∙ c.if-both_ways.false, sym c.one_way.ensures ∙ c.if-one_way.false, third false c.if-by_third.false)
