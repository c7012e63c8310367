-- `stretches::plan_stretches` meets its contract: who is in need at the end tells how the run stood. Assumes nothing.
use Prim.Native.Nat.{◌≤◌}
use native.Mathlib.Omega.{arith}
use lib.ListN.{length}
use Rattle.site.specs.Reach.{is_open}
use Rattle.stretches.proofs.Ends.{refused, cleared, stood, laid-down}
use Rattle.stretches.proofs.plan_stretches.Goals as goal

pub returns-then-cell-cells : goal.returns-then-cell-cells
returns-then-cell-cells c = let a = c.args in
    let L = c.lowest-cell in
    let fits : a.cells ≤ length a.loads = omega arith in
    let room : a.n ≤ length a.words.now = omega arith in record {
      answer = refused (is_open a.blocked.now) a.clash.now a.loads a.cells a.n fits a.words.now c.lay_all-need.new.words c.lay_all-need.new.left room
          c.lay_all-need.ensures.words c.lay_all-need.ensures.left
          c.lay_all-need.result c.lay_all-need.ensures.need L.result L.ensures c.if-cell-cells.true c.left_of-short.result
          c.left_of-short.ensures;
      words = cleared (is_open a.blocked.now) a.clash.now a.loads a.cells a.n fits a.words.now c.lay_all-need.new.words c.lay_all-need.new.left room
          c.lay_all-need.ensures.words c.lay_all-need.ensures.left
          c.lay_all-need.result c.lay_all-need.ensures.need L.result L.ensures c.if-cell-cells.true
          c.lay.new.words c.lay.ensures;
    }

pub returns : goal.returns
returns c = let a = c.args in
    let L = c.lowest-cell in
    let fits : a.cells ≤ length a.loads = omega arith in
    let room : a.n ≤ length a.words.now = omega arith in record {
      answer = stood (is_open a.blocked.now) a.clash.now a.loads a.cells a.n fits a.words.now c.lay_all-need.new.words c.lay_all-need.new.left room
          c.lay_all-need.ensures.words c.lay_all-need.ensures.left
          c.lay_all-need.result c.lay_all-need.ensures.need L.result L.ensures c.if-cell-cells.false;
      words = laid-down (is_open a.blocked.now) a.clash.now a.loads a.cells a.n fits a.words.now c.lay_all-need.new.words c.lay_all-need.new.left room
          c.lay_all-need.ensures.words c.lay_all-need.ensures.left
          c.lay_all-need.result c.lay_all-need.ensures.need L.result L.ensures c.if-cell-cells.false;
    }
