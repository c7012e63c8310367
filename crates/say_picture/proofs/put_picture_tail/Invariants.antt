-- `say_picture::put_picture_tail` meets its contract: before a row, the rows above it are put. Assumes nothing.
use Prim.Native.Nat.{◌+◌, ◌*◌}
use Rattle.faults.specs.Faults.{in_turn}
use Rattle.phrases.specs.Phrases.{phrase}
use Rattle.phrases.specs.Put.{Put}
use Rattle.phrases.specs.declared.Phrase.TheVariants.{Row}
use Rattle.drawing.specs.Picture.{picture_tail}
use Rattle.say_picture.proofs.put_picture_tail.Given as goal

abbrev pub invariant-loop-k : goal.invariant-loop-k
invariant-loop-k l = Put l.initial.out l.at (in_turn (λ n. phrase picture_tail (Row n l.slots l.channels l.y (l.y + 19))) l.k)
    (1000 * l.k) l.out l.next
