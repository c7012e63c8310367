-- `whytext::whole_text` meets its contract: the parts in their buffers are those of the text. Assumes nothing.
use Prim.Native.Nat.{ℕ, ◌≤◌}
use mathlib.Core.Path.{◌∙◌, ap}
use native.Mathlib.Omega.{arith}
use lib.ListN.{length, replicate, length-replicate}
use Rattle.finds.specs.Find.{last_line}
use Rattle.calltext.proofs.Kept.{put-end, put-kept, put_whole}
use Rattle.whytext.specs.Text.{lent_table, why_text}
use Rattle.whytext.proofs.Firsts.{found-by-length}
use Rattle.whytext.proofs.whole_text.Goals as goal

text-room : 61700 ≤ length (replicate {A = ℕ} 65536 0)
text-room = omega (arith, length-replicate {A = ℕ} 65536 0)

last-room : 3000 ≤ length (replicate {A = ℕ} 4096 0)
last-room = omega (arith, length-replicate {A = ℕ} 4096 0)

pub slice_bounds-lay_why-end : goal.slice_bounds-lay_why-end
slice_bounds-lay_why-end c = put_whole c.put_opening-n.ensures.text text-room

pub slice_bounds-lay_why-end-2 : goal.slice_bounds-lay_why-end-2
slice_bounds-lay_why-end-2 c = put_whole c.put_last_line-m.ensures last-room

pub lay_why-requires : goal.lay_why-requires
lay_why-requires c = let o = c.put_opening-n.ensures.text in
    let m = c.put_last_line-m.ensures in
    (omega (arith, put_whole o text-room, put-end o, o.short), omega (arith, put_whole m last-room, put-end m, m.short))

pub returns : goal.returns
unfolding why_text lent_table
returns c = let same = found-by-length _ _ _ (replicate 65536 0) c.put_opening-n.auto.table in
    let found = c.find_why-found.ensures.answer ∙ same in
    let last = put-kept c.put_last_line-m.ensures last-room ∙ ap last_line found in record {
      answer = rw
          (put-kept c.put_opening-n.ensures.text text-room, last) at (c.lay_why.ensures.answer);
      out = rw
          (put-kept c.put_opening-n.ensures.text text-room, last) at (c.lay_why.ensures.out);
    }
