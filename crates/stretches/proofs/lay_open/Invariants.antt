-- `stretches::lay_open` meets its contract: before each position, those passed are laid down, and the open ones of them are counted. Assumes nothing.
use Rattle.std.specs.Prelude.{◌≡◌, ◌≤◌}
use Rattle.std.proofs.lemmas.List.Edits.{sets}
use Rattle.laws.specs.Part.{list_of}
use Rattle.stretches.specs.Stretches.{gated, open_from}
use Rattle.stretches.proofs.lay_open.Given as goal

abbrev pub invariant-loop-span : goal.invariant-loop-span
invariant-loop-span l = (l.used ≤ l.run)
    × (l.used ≡ open_from l.blocked l.from l.span)
    × (l.words ≡ sets l.initial.words l.from (list_of (gated l.blocked l.from l.word) l.span))
