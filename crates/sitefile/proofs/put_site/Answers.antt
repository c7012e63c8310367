-- `sitefile::put_site` meets its contract: the length is the sum of the parts, and the parts stored one after the other are the file. Assumes nothing.
use borrow.Author.Rules.{rules}
use Prim.Native.Nat.{◌+◌, ◌*◌, ◌≤◌}
use mathlib.Core.Path.{◌≡◌, sym, ◌∙◌}
use native.Mathlib.Omega.{arith}
use lib.ListN.{length}
use Rattle.sitefile.specs.Write.{site_bytes}
use Rattle.reachpairs.proofs.RowLaws.{pair-bytes-most}
use Rattle.sitefile.proofs.WriteLaws.{site-length, site-put}
use Rattle.records.proofs.Write.{written-done, written-short, laid_done, laid-short}
use Rattle.sitefile.proofs.put_site.Goals as goal

pub overflow_add-from : goal.overflow_add-from
overflow_add-from c = omega (arith, c.head_len-first.ensures.upper_bound)

pub overflow_add-at : goal.overflow_add-at
overflow_add-at c = omega (arith, c.head_len-first.ensures.upper_bound, c.requires.0)

pub overflow_add-end : goal.overflow_add-end
overflow_add-end c = omega (arith, c.head_len-first.ensures.upper_bound, c.requires.0)

pub overflow_add-end-2 : goal.overflow_add-end-2
overflow_add-end-2 c =
    let few : c.pairs_len-m.result ≤ 2048 = rw c.pairs_len-m.ensures (pair-bytes-most _) in
    omega (arith, few, c.head_len-first.ensures.upper_bound, c.requires.0)

pub overflow_add-need : goal.overflow_add-need
overflow_add-need c =
    let few : c.pairs_len-m.result ≤ 2048 = rw c.pairs_len-m.ensures (pair-bytes-most _) in
    omega (arith, few, c.blocks_len-last.ensures.upper_bound, c.head_len-first.ensures.upper_bound, c.requires.0)

pub returns-then-out-need : goal.returns-then-out-need
returns-then-out-need c =
    let size : length c.args.s.loads ≡ 32 = search rules in
    let need : c.head_len-first.result + 4 + 2 * c.args.s.cells + 4 + c.pairs_len-m.result + c.blocks_len-last.result ≡ length (site_bytes c.args.s) =
    (λ j. c.head_len-first.ensures.value j + 4 + 2 * c.args.s.cells + 4 + c.pairs_len-m.ensures j + c.blocks_len-last.ensures.value j)
    ∙ sym (site-length c.args.s c.requires.0 size) in record {
      value = written-short _ _ _ need c.if-out-need.true;
      out_after = laid-short _ _
          (omega (arith, need));
    }

pub put_site_head-requires : goal.put_site_head-requires
put_site_head-requires c = omega (arith, c.head_len-first.ensures.value)

pub overflow_cast-m : goal.overflow_cast-m
overflow_cast-m c =
    let few : c.pairs_len-m.result ≤ 2048 = rw c.pairs_len-m.ensures (pair-bytes-most _) in
    omega (arith, few)

pub put_blocks-requires : goal.put_blocks-requires
put_blocks-requires c = (c.requires.1, c.blocks_len-last.ensures.value, omega arith)

pub returns : goal.returns
returns c =
    let size : length c.args.s.loads ≡ 32 = search rules in
    let need : c.head_len-first.result + 4 + 2 * c.args.s.cells + 4 + c.pairs_len-m.result + c.blocks_len-last.result ≡ length (site_bytes c.args.s) =
    (λ j. c.head_len-first.ensures.value j + 4 + 2 * c.args.s.cells + 4 + c.pairs_len-m.ensures j + c.blocks_len-last.ensures.value j)
    ∙ sym (site-length c.args.s c.requires.0 size) in record {
      value = written-done _ _ _ need c.if-out-need.false;
      out_after = rw (
        c.put_blocks.ensures,
        c.put_pairs.ensures,
        c.put_start-2.ensures,
        c.put_loads.ensures,
        c.put_start.ensures,
        c.put_site_head.ensures,
        c.head_len-first.ensures.value,
        c.pairs_len-m.ensures,
      )
          (site-put c.args.s c.requires.0 size c.args.out.now ∙ laid_done _ _ (omega (arith, need)));
    }
