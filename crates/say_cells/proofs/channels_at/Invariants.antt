-- `say_cells::channels_at` meets its contract: before channel f, the word of the channels below it. Assumes nothing.
use Rattle.std.specs.Prelude.{ℕ, ◌+◌, ◌*◌, ◌≡◌, Bool, List, get_or}
use Rattle.laws.specs.Bits.{word_of}
use Rattle.site.specs.Reach.{clash_rows}
use Rattle.site.specs.declared.Site.{Site}
use Rattle.places.specs.Places.{place_of}
use Rattle.say_cells.specs.Cells.{held_as}
use Rattle.say_cells.specs.declared.SentAs.{SentAs}
use Rattle.say_cells.proofs.channels_at.Given as goal

abbrev pub test : Site → List ℕ → SentAs → (i slot : ℕ) → ℕ → Bool
test s t kind i slot f = held_as kind (get_or (clash_rows s) i 0) i (place_of s t (slot * s.channels + f))

abbrev pub invariant-loop-f : goal.invariant-loop-f
invariant-loop-f l = l.word ≡ word_of (test l.site l.table l.kind l.i l.slot) l.f
