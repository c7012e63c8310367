-- `lines::eat_text` meets its contract: what is left of the text, eaten from here on, gives the whole. Assumes nothing.
use Rattle.std.specs.Prelude.{◌≡◌, drop}
use Rattle.lines.specs.Match.{eaten}
use Rattle.lines.proofs.eat_text.Given as goal

abbrev pub invariant-loop-byte : goal.invariant-loop-byte
invariant-loop-byte l = eaten l.s l.p (drop l.byte-index l.text) ≡ eaten l.s l.at l.text
