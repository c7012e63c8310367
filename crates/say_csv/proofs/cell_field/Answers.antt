-- `say_csv::cell_field` meets its contract: a case for each way out. Assumes nothing.
use mathlib.Core.Path.{sym, ◌∙◌}
use Prim.Native.Nat.{◌≤◌, ◌<◌}
use native.Mathlib.Omega.{arith}
use borrow.Author.Tests.{lt-ltb, le-ltb}
use Rattle.finds.specs.Last.{lowest_of}
use Rattle.say_csv.specs.Fields.{cell_field}
use Rattle.say_csv.proofs.cell_field.Goals as goal

pub returns-then-not-has : goal.returns-then-not-has
unfolding cell_field
returns-then-not-has c = rw (sym c.has.ensures ∙ c.if-not-has.true)

pub returns-then-low-j : goal.returns-then-low-j
unfolding cell_field
returns-then-low-j c = let h : lowest_of c.args.set < c.args.j = omega (arith, c.requires.1, c.if-low-j.true) in
    rw (sym c.has.ensures ∙ c.if-not-has.false, lt-ltb _ _ h)

pub returns : goal.returns
unfolding cell_field
returns c = let h : c.args.j ≤ lowest_of c.args.set = omega (arith, c.requires.1, c.if-low-j.false) in
    rw (sym c.has.ensures ∙ c.if-not-has.false, le-ltb _ _ h)
