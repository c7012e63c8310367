-- `setwords::first_few` meets its contract: after some steps, the rest has the positions that have as many or more below them. Assumes nothing.
use Rattle.std.specs.Prelude.{◌≡◌}
use Rattle.laws.specs.Bits.{bit_at, word_of}
use Rattle.setwords.proofs.Firsts.{later}
use Rattle.setwords.proofs.first_few.Given as goal

abbrev pub invariant-loop : goal.invariant-loop
invariant-loop l = l.rest ≡ word_of (later (bit_at l.x) l.counter) 64
