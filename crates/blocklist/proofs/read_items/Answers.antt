-- `blocklist::read_items` meets its contract: the items that are left, from here, give the whole answer. Assumes nothing.
use mathlib.Core.Path.{◌≡◌, sym, ap, ◌∙◌}
use Prim.Native.Nat.{suc, ◌+◌, ◌-◌}
use native.Mathlib.Omega.{arith}
use lib.ListN.{length}
use Rattle.blocklist.specs.Read.{list_from}
use Rattle.blocklist.proofs.Steps.{list-ended, list-bad, list_on, with-long}
use Rattle.blocklist.proofs.read_items.Goals as goal

pub returns-then-next-s : goal.returns-then-next-s
returns-then-next-s c = let n = length c.args.s.now - (c.loop.counter + 1) in
    let e : suc n ≡ length c.args.s.now - c.loop.counter = omega arith in
    list-ended _ _ _ c.loop.set c.loop.at n c.read_block-block.result c.read_block-block.ensures
    c.add_block.new.set c.add_block.ensures c.if-next-s.true ∙ rw (sym e) at c.loop.invariant.1

pub returns-then-comma : goal.returns-then-comma
returns-then-comma c = let n = length c.args.s.now - (c.loop.counter + 1) in
    let e : suc n ≡ length c.args.s.now - c.loop.counter = omega arith in
    c.bad_list.ensures
    ∙ list-bad _ _ _ c.loop.set c.loop.at n c.read_block-block.result c.read_block-block.ensures
    c.add_block.new.set c.add_block.ensures c.if-next-s.false c.eat-comma.result c.eat-comma.ensures c.if-comma.true
    ∙ rw (sym e) at c.loop.invariant.1

pub loop-preserved : goal.loop-preserved
loop-preserved c = let n = length c.args.s.now - (c.loop.counter + 1) in
    let e : suc n ≡ length c.args.s.now - c.loop.counter = omega arith in (
      ap length c.add_block.ensures ∙ with-long _ _ _,
      list_on _ _ _ c.loop.set c.loop.at n c.read_block-block.result c.read_block-block.ensures
          c.add_block.new.set c.add_block.ensures c.if-next-s.false c.eat-comma.result c.eat-comma.ensures c.if-comma.false
          ∙ rw (sym e) at c.loop.invariant.1,
    )

pub returns : goal.returns
unfolding list_from
returns c = let e : length c.args.s.now - c.loop.counter ≡ 0 = omega arith in
    c.bad_list-2.ensures ∙ rw e at c.loop.invariant.1
