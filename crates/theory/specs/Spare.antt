-- A spare cell numbered in: one more cell, with no load, after the first p cells. The cells after it move up by one.
use Rattle.std.specs.Prelude.{◌≡◌, ℕ, ◌+◌, ◌≤◌, ◌<◌, ltb}
use Rattle.laws.specs.Choice.{pick}
use Rattle.theory.specs.Net.{Net, room}
use Rattle.theory.specs.Verdict.{LoadVerdict, holds, over, ChainVerdict, chained, broken, ClassVerdict, in_class, outside}

-- where a cell stands then
unfoldable pub past : ℕ → ℕ → ℕ
past p i = pick (ltb i p) i (i + 1)

-- t is s with a spare cell after the first p: the others have their loads and clash as they did; whom the spare cell clashes with is free
pub record SparePut (p : ℕ) (s t : Net) : Type 0 where
  pub place : p ≤ s.cells
  pub one_more : t.cells ≡ s.cells + 1
  pub same_room : room t ≡ room s
  pub no_load : t.load p ≡ 0
  pub same_load : (i : ℕ) → i < s.cells → t.load (past p i) ≡ s.load i
  pub same_clash : (a c : ℕ) → a < c → c < s.cells → t.clash (past p a) (past p c) ≡ s.clash a c

-- a verdict with each cell that it names moved
abbrev pub load_past : ℕ → LoadVerdict → LoadVerdict
load_past p holds = holds
load_past p (over i m) = over (past p i) m

abbrev pub chain_past : ℕ → ChainVerdict → ChainVerdict
chain_past p chained = chained
chain_past p (broken a b c) = broken (past p a) (past p b) (past p c)

abbrev pub class_past : ℕ → ClassVerdict → ClassVerdict
class_past p in_class = in_class
class_past p (outside a b i) = outside (past p a) (past p b) (past p i)
