-- `say_picture::put_picture_head` meets its contract: before a row, the rows above it are put. Assumes nothing.
use Prim.Native.Nat.{◌*◌}
use Rattle.faults.specs.Faults.{in_turn}
use Rattle.phrases.specs.Phrases.{phrase}
use Rattle.phrases.specs.Put.{Put}
use Rattle.phrases.specs.declared.Phrase.TheVariants.{Row}
use Rattle.drawing.specs.Picture.{picture_head}
use Rattle.say_picture.proofs.put_picture_head.Given as goal

abbrev pub invariant-loop-k : goal.invariant-loop-k
invariant-loop-k l = Put l.initial.out l.at (in_turn (λ n. phrase picture_head (Row n l.height l.grid l.long l.cells)) l.k)
    (1000 * l.k) l.out l.next
