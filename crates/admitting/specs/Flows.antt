-- Flows, and sets of them. A set of flows is a number: flow k, counted from 0, is in it when its bit of weight 2 ^ k is 1.
-- Stated over any problem: on top of its loads, or with these set aside.
-- Cells are counted from 0.
use Rattle.std.specs.Prelude.{ℕ, ◌+◌, eqb}
use Rattle.laws.specs.Bits.{bit_at}
use Rattle.laws.specs.Choice.{pick}
use Rattle.laws.specs.Sum.{sum}
use Rattle.theory.specs.Net.{Net}

-- so many flows, each with its cell, its share and its value
pub record Flows : Type 0 where
  pub count : ℕ
  pub cell : ℕ → ℕ
  pub share : ℕ → ℕ
  pub value : ℕ → ℕ

-- "flow 1 weighs 1, flow 2 weighs 2, flow 3 weighs 4": the sum of f over those of the first n flows that are in x
abbrev pub total : (ℕ → ℕ) → ℕ → ℕ → ℕ
total f n x = sum (λ k. pick (bit_at x k) (f k) 0) n

-- "total value"
abbrev pub worth : Flows → ℕ → ℕ
worth f x = total f.value f.count x

-- "shares, summed by cell"
abbrev pub load_in : Flows → ℕ → ℕ → ℕ
load_in f x i = total (λ k. pick (eqb (f.cell k) i) (f.share k) 0) f.count x

-- "on top of the loads that the site has": what a cell carries with the flows of x is their shares and its own load
abbrev pub beside : Net → Flows → ℕ → Net
beside s f x = record { cells = s.cells; width = s.width; load = λ i. load_in f x i + s.load i; clash = s.clash; usable = s.usable }

-- "The site's own loads are set aside here: every cell starts at 0"
abbrev pub idle : Net → Net
idle s = record { cells = s.cells; width = s.width; load = λ _. 0; clash = s.clash; usable = s.usable }

abbrev pub laden : Net → Flows → ℕ → Net
laden s f x = beside (idle s) f x
