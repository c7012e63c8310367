-- `blockbits::blocks_len` meets its contract: the record is absent, or has its four bytes and its body. Assumes nothing.
use mathlib.Core.Path.{sym, ap, ◌∙◌}
use native.Mathlib.Omega.{arith}
use lib.ListN.{length}
use Rattle.blockbits.proofs.Blocks.{block-length, block_none}
use Rattle.blockbits.proofs.blocks_len.Goals as goal

pub returns-then-none_blocked : goal.returns-then-none_blocked
returns-then-none_blocked c = let a = c.args in record {
  value = sym
      (ap length (block_none a.set.now a.n (sym c.none_blocked.ensures ∙ c.if-none_blocked.true)));
  upper_bound = omega arith;
}

pub returns : goal.returns
returns c = let a = c.args in record {
  value = sym (block-length a.set.now a.n (sym c.none_blocked.ensures ∙ c.if-none_blocked.false));
  upper_bound = omega
      (arith, c.requires);
}
