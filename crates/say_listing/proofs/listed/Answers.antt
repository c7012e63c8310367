-- `say_listing::listed` meets its contract: the test says which case of the definition holds. Assumes nothing.
use native.Mathlib.Nat.{div-le_self, mod-le}
use native.Mathlib.Omega.{arith}
use borrow.Author.Tests.{eq-eqb, ne_eqb}
use Rattle.say_listing.specs.Lines.{listed}
use Rattle.say_listing.proofs.listed.Goals as goal

pub returns-then-byte-ne1 : goal.returns-then-byte-ne1
unfolding listed
returns-then-byte-ne1 c = rw (ne_eqb c.args.byte 1 c.if-byte-ne1.true)

pub overflow_add-slot : goal.overflow_add-slot
overflow_add-slot c = omega (arith, div-le_self c.args.p c.args.channels)

pub overflow_add-channel : goal.overflow_add-channel
overflow_add-channel c = omega (arith, mod-le c.args.p c.args.channels)

pub returns : goal.returns
unfolding listed
returns c = rw (eq-eqb c.args.byte 1 c.if-byte-ne1.false)
