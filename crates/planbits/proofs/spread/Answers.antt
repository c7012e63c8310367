-- `planbits::spread` meets its contract: it stores the eight bits one after the other. Assumes nothing.
use native.Mathlib.Nat.{div-one}
use native.Mathlib.Numerals.{towards_suc}
use native.Mathlib.Omega.{arith}
use lib.ListN.{length-set}
use Rattle.planbits.specs.Bits.{bits_from}
use Rattle.planbits.proofs.spread.Goals as goal

pub bounds-table-k-2 : goal.bounds-table-k-2
bounds-table-k-2 c = simp length-set (omega arith)

pub bounds-table-k-3 : goal.bounds-table-k-3
bounds-table-k-3 c = simp length-set (omega arith)

pub bounds-table-k-4 : goal.bounds-table-k-4
bounds-table-k-4 c = simp length-set (omega arith)

pub bounds-table-k-5 : goal.bounds-table-k-5
bounds-table-k-5 c = simp length-set (omega arith)

pub bounds-table-k-6 : goal.bounds-table-k-6
bounds-table-k-6 c = simp length-set (omega arith)

pub bounds-table-k-7 : goal.bounds-table-k-7
bounds-table-k-7 c = simp length-set (omega arith)

pub bounds-table-k-8 : goal.bounds-table-k-8
bounds-table-k-8 c = simp length-set (omega arith)

pub returns : goal.returns
unfolding bits_from
returns c = simp (div-one, towards_suc)
