-- `sets::take_first` meets its contract: a set with no more than m positions is its own first m, and else the words are taken one by one. Assumes nothing.
use mathlib.Core.Path.{ap, ◌∙◌}
use Prim.Native.Nat.{◌-◌}
use native.Mathlib.Omega.{arith}
use lib.Seq.{sets}
use Rattle.sets.proofs.Sets.{few-whole}
use Rattle.sets.proofs.take_first.Goals as goal

pub returns-then-many-m : goal.returns-then-many-m
returns-then-many-m c = let size = c.set_size-many in
    let a = c.args in record {
      set = c.keep_all.ensures ∙ ap (sets a.set.now 0) (few-whole a.set.now a.w a.m (omega (arith, size.ensures)));
      lacking = ap
          (λ n. a.m - n) size.ensures;
    }
