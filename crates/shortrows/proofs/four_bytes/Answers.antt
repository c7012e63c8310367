-- `shortrows::four_bytes` meets its contract: the bits of the word, spread and counted twice. Assumes nothing.
use mathlib.Core.Path.{ap, ◌∙◌}
use native.Mathlib.Omega.{arith}
use Rattle.shortrows.proofs.Bytes.{four_apart, four-most, four-twice}
use Rattle.shortrows.proofs.four_bytes.Goals as goal

pub spread-requires : goal.spread-requires
spread-requires c = omega (arith, c.four_bits.ensures)

pub overflow_mul-result : goal.overflow_mul-result
overflow_mul-result c = omega (arith, c.spread.ensures, four-most c.four_bits.result)

pub returns : goal.returns
returns c = four-twice c.args.taken c.args.p c.spread.result (c.spread.ensures ∙ ap four_apart c.four_bits.ensures)
