-- `calltext::call_text` meets its contract: the words stand at the start of the local text, and are laid from there. Assumes nothing.
use Prim.Native.Nat.{ℕ, ◌≤◌}
use native.Mathlib.Omega.{arith}
use lib.ListN.{length, replicate, length-replicate}
use Rattle.calltext.proofs.Kept.{put-kept, put_whole}
use Rattle.calltext.proofs.call_text.Goals as goal

room : 2000 ≤ length (replicate {A = ℕ} 2048 0)
room = omega (arith, length-replicate {A = ℕ} 2048 0)

pub slice_bounds-lay_text-end : goal.slice_bounds-lay_text-end
slice_bounds-lay_text-end c = put_whole c.put_call-n.ensures room

pub returns : goal.returns
returns c = record {
  answer = rw (put-kept c.put_call-n.ensures room) at (c.lay_text.ensures.answer);
  out = rw (put-kept c.put_call-n.ensures room) at
      (c.lay_text.ensures.out);
}
