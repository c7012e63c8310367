-- `cleaning::put_step` meets its contract: its bytes one after another. Assumes nothing.
use Rattle.cleaning.specs.Clean.{out_of}
use Rattle.cleaning.proofs.Kept.{kept-both}
use Rattle.cleaning.proofs.put_step.Goals as goal

pub returns : goal.returns
unfolding out_of
returns c = kept-both c.put_byte-a.ensures (kept-both c.put_byte-b.ensures c.put_byte.ensures)
