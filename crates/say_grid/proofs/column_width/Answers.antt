-- `say_grid::column_width` meets its contract: before a line, the greatest width of the lines above it. Assumes nothing.
use Prim.Native.Nat.{ℕ, max, ◌+◌}
use mathlib.Core.Logic.{⊎_elim}
use mathlib.Core.Path.{◌≡◌, refl, sym, ap₂, ◌∙◌}
use native.Mathlib.Omega.{arith}
use borrow.Author.Tests.{ltb-true, ltb-false}
use lib.Dec.{ltb}
use Rattle.laws.proofs.Choice.{cases}
use Rattle.laws.specs.Most.{greater, most}
use Rattle.laws.proofs.Most.{most-more}
use Rattle.say_grid.specs.Grid.{column_width}
use Rattle.say_grid.proofs.column_width.Invariants.{wide}
use Rattle.say_grid.proofs.column_width.Goals as goal

max-greater : (a b : ℕ) → max a b ≡ greater a b
max-greater a b =
    ⊎_elim (λ e. rw e (omega (arith, ltb-true a b e))) (λ e. rw e (omega (arith, ltb-false a b e))) (cases (ltb a b))

pub loop-line-init : goal.loop-line-init
unfolding most
loop-line-init c = (refl, omega arith)

pub entry_size-size-requires : goal.entry_size-size-requires
entry_size-size-requires c = record { table_value = (c.requires.0, c.requires.1); line_le_channels = (omega arith, c.requires.2) }

pub loop-line-preserved : goal.loop-line-preserved
loop-line-preserved c = let a = c.args in (
  c.max-widest.ensures ∙ max-greater c.loop-line.widest c.entry_size-size.result
      ∙ ap₂ greater c.loop-line.invariant.0 c.entry_size-size.ensures.0
      ∙ sym (most-more (wide a.site a.table.now a.slot) c.loop-line.line),
  omega (arith, c.max-widest.ensures, c.loop-line.invariant.1, c.entry_size-size.ensures.1),
)

pub returns : goal.returns
unfolding column_width
returns c = let e : c.loop-line.line ≡ c.args.site.channels + 1 = omega arith in
    (rw e at c.loop-line.invariant.0, c.loop-line.invariant.1)
