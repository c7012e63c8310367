-- `say_find::head_phrase` meets its contract: a case for each way out. Assumes nothing.
use mathlib.Core.Path.{sym, ◌∙◌}
use native.Mathlib.Omega.{arith}
use Rattle.laws.specs.Bits.{bit_at}
use Rattle.laws.proofs.Search.{first-most}
use Rattle.say_find.proofs.head_phrase.Goals as goal

pub overflow_add-result : goal.overflow_add-result
overflow_add-result c = omega (arith, c.lowest-low.ensures, first-most (bit_at c.args.set) 0 32 (omega arith))

pub returns-then-several : goal.returns-then-several
returns-then-several c = rw (sym c.several.ensures ∙ c.if-several.true, ← c.lowest-low.ensures)

pub overflow_add-result-2 : goal.overflow_add-result-2
overflow_add-result-2 c = omega (arith, c.lowest-low.ensures, first-most (bit_at c.args.set) 0 32 (omega arith))

pub returns : goal.returns
returns c = rw (sym c.several.ensures ∙ c.if-several.false, ← c.lowest-low.ensures)
