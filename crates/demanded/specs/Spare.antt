-- W2's spare cells: "Customers number spare cells into a tunnel for later. A spare has load 0". One is put in after the first p cells, and becomes cell p + 1.
-- Cells are counted from 1 here, as the calls name them.
use Rattle.std.specs.Prelude.{ℕ, ◌+◌, ◌-◌, ◌≤◌, ◌↔◌, ◌≡◌, leb, Result, Ok, Err}
use Rattle.laws.specs.Choice.{pick}
use Rattle.site.specs.Means.{UpTo, Reaches, Clashing}
use Rattle.site.specs.Record.{load_at}
use Rattle.site.specs.declared.Site.{Site}
use Rattle.site.specs.declared.Fault.{Fault}
use Rattle.judges.specs.declared.LoadVerdict.{LoadVerdict}
use Rattle.judges.specs.declared.LoadVerdict.TheVariants as load
use Rattle.judges.specs.declared.ChainVerdict.{ChainVerdict}
use Rattle.judges.specs.declared.ChainVerdict.TheVariants as chain
use Rattle.judges.specs.declared.ClassVerdict.{ClassVerdict}
use Rattle.judges.specs.declared.ClassVerdict.TheVariants as class

-- the number of a cell then: the cells after it move up by one
unfoldable pub moved : ℕ → ℕ → ℕ
moved p cell = pick (leb cell p) cell (cell + 1)

-- t is s with a spare cell after the first p. The others have their loads and reach one another as they did; whom the spare cell reaches, and under rule 1 who
-- reaches it, is free. W11: under rule 2 the spare cell can be the third cell by which two others clash. So there two cells that both reach it have to clash
-- without it: else it makes a clash that was not there, and can change a verdict.
pub record SpareIn (p : ℕ) (s t : Site) : Type 0 where
  pub place : p ≤ s.cells
  pub one_more : t.cells ≡ s.cells + 1
  pub same_slots : t.slots ≡ s.slots
  pub same_channels : t.channels ≡ s.channels
  pub same_blocked : t.blocked ≡ s.blocked
  pub same_rule : t.rule ≡ s.rule
  pub no_load : load_at t p ≡ 0
  pub same_load : (cell : ℕ) → UpTo s.cells cell → load_at t (moved p cell - 1) ≡ load_at s (cell - 1)
  pub same_reach : (from to : ℕ) → UpTo s.cells from → UpTo s.cells to → Reaches t (moved p from) (moved p to) ↔ Reaches s from to
  pub no_new_third : s.rule ≡ 2 → (a b : ℕ) → UpTo s.cells a → UpTo s.cells b → (a ≡ b → ⊥)
      → Reaches t (moved p a) (p + 1) → Reaches t (moved p b) (p + 1) → Clashing s a b

-- an answer of the load test, and of the two judges, with the cells that it names by their new numbers
abbrev pub load_moved : ℕ → Result LoadVerdict Fault → Result LoadVerdict Fault
load_moved p (Ok load.Holds) = Ok load.Holds
load_moved p (Ok (load.Over cell m)) = Ok (load.Over (moved p cell) m)
load_moved p (Err f) = Err f

abbrev pub chain_moved : ℕ → Result ChainVerdict Fault → Result ChainVerdict Fault
chain_moved p (Ok chain.Chained) = Ok chain.Chained
chain_moved p (Ok (chain.Broken a b c)) = Ok (chain.Broken (moved p a) (moved p b) (moved p c))
chain_moved p (Err f) = Err f

abbrev pub class_moved : ℕ → Result ClassVerdict Fault → Result ClassVerdict Fault
class_moved p (Ok class.InClass) = Ok class.InClass
class_moved p (Ok (class.Outside a b i)) = Ok (class.Outside (moved p a) (moved p b) (moved p i))
class_moved p (Err f) = Err f
