-- `words::second_in` meets its contract: the lowest bit above a of what the row and the word share. Assumes nothing.
use Rattle.std.proofs.Common.{arith, ◌∙◌, ◌+◌, ◌&&◌, get_or, bit_and}
use Rattle.laws.specs.Bits.{bit_at}
use Rattle.laws.proofs.Bits.{bit-and}
use Rattle.laws.proofs.Search.{first-same}
use Rattle.words.specs.Clashes.{second_in}
use Rattle.words.proofs.second_in.Goals as goal

pub returns : goal.returns
unfolding second_in
returns c = let a = c.args in
    let row = get_or a.clash.now a.a 0 in
    c.lowest.ensures
    ∙ first-same (bit_at (bit_and row a.word)) (λ j. bit_at row j && bit_at a.word j) (a.a + 1) a.cells (omega arith) (λ j _ _. bit-and row a.word j)
