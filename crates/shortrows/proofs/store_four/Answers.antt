-- `shortrows::store_four` meets its contract: it stores the four one after the other. Assumes nothing.
use native.Mathlib.Numerals.{towards_suc}
use native.Mathlib.Omega.{arith}
use lib.ListN.{length-set}
use Rattle.shortrows.proofs.store_four.Goals as goal

pub bounds-row-at-2 : goal.bounds-row-at-2
bounds-row-at-2 c = simp length-set (omega arith)

pub bounds-row-at-3 : goal.bounds-row-at-3
bounds-row-at-3 c = simp length-set (omega arith)

pub bounds-row-at-4 : goal.bounds-row-at-4
bounds-row-at-4 c = simp length-set (omega arith)

pub returns : goal.returns
returns c = simp towards_suc
