-- `tidying::tidy` meets its contract: what cleaning keeps is the tidied sheet, and that is judged. Assumes nothing.
use Prim.Native.Nat.{ℕ}
use lib.ListN.{replicate, length-replicate}
use Rattle.tidying.specs.Tidy.{tidy_answer, tidy_out}
use Rattle.tidying.proofs.Read.{kept-inside, kept-long, kept-tidied}
use Rattle.tidying.proofs.tidy.Goals as goal

pub slice_bounds-file-end : goal.slice_bounds-file-end
slice_bounds-file-end c = kept-inside c.args.sheet.now (replicate 4096 0) _ _ c.clean-n.ensures.stored c.clean-n.ensures.size

pub slice_bounds-judge-end : goal.slice_bounds-judge-end
slice_bounds-judge-end c = kept-long c.args.sheet.now (replicate 4096 0) _ _ c.clean-n.ensures.stored c.clean-n.ensures.size

pub returns : goal.returns
unfolding tidy_answer tidy_out
returns c = let s = c.args.sheet.now in record {
  answer = rw (kept-tidied s (replicate 4096 0) _ _ c.clean-n.ensures.stored c.clean-n.ensures.size
      (length-replicate {A = ℕ} 4096 0)) at (c.judge.ensures.answer);
  out = rw
      (kept-tidied s (replicate 4096 0) _ _ c.clean-n.ensures.stored c.clean-n.ensures.size (length-replicate {A = ℕ} 4096 0)) at (c.judge.ensures.out);
}
