-- `escaping::put_escaped` meets its contract. The invariant: what is left of the text, escaped and stored from here on, gives the whole.
-- It has room, since an escaped text is at most six times as long as the text. Assumes nothing.
use Rattle.std.specs.Prelude.{◌+◌, ◌*◌, ◌-◌, ◌≤◌, length, drop}
use Rattle.text.proofs.Writing.{Writing}
use Rattle.escaping.specs.Letters.{letters}
use Rattle.escaping.specs.Escaped.{referred, escaped}
use Rattle.escaping.proofs.put_escaped.Given as goal

abbrev pub invariant-loop-i : goal.invariant-loop-i
invariant-loop-i l = (l.next + 6 * (length l.text - l.i) ≤ length l.initial.out)
    × Writing l.initial.out l.at (escaped l.text) l.out l.next (referred (letters l.left (drop l.i l.text)))
