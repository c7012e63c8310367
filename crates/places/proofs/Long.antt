-- How long a cell of a place is: a + and two digits. Assumes nothing.
use Prim.Native.Nat.{ℕ, ◌+◌, ◌≤◌, ◌<◌}
use mathlib.Core.Bool.{Bool, true, false}
use mathlib.Core.List.{List}
use native.Mathlib.Omega.{arith}
use lib.Dec.{ltb}
use lib.ListN.{length, length-append}
use Rattle.laws.specs.Bits.{bit_at}
use Rattle.laws.specs.Choice.{pick}
use Rattle.laws.specs.Search.{first}
use Rattle.text.proofs.Digits.{decimal-long}
use Rattle.speech.specs.Speech.{spoken}
use Rattle.phrases.specs.Phrases.{phrase}
use Rattle.phrases.specs.Put.{Put}
use Rattle.phrases.specs.declared.Phrase.TheVariants.{Silent, Row}
use Rattle.places.specs.Lines.{place_lines, first_cell_row, next_cell_row}
use Rattle.places.specs.Places.{sent_phrase, cell_said}

pub cell-long : (word i : ℕ) → i < 32 → length (cell_said word i) ≤ 3
unfolding sent_phrase place_lines spoken
cell-long word i h = go (bit_at word i) (ltb (first (bit_at word) 0 32) i)
  where
    go : (b t : Bool) → length (phrase place_lines (pick b (Row (pick t next_cell_row first_cell_row) (i + 1) 0 0 0) Silent)) ≤ 3
    go true true = simp length-append (omega (arith, decimal-long 1 (i + 1) (omega arith)))
    go true false = simp length-append (omega (arith, decimal-long 1 (i + 1) (omega arith)))
    go false t = omega arith

-- so that it takes no more room
pub cell-put : (word i : ℕ) → i < 32 → {before after : List ℕ} {at next : ℕ} → Put before at (cell_said word i) 30 after next
    → Put before at (cell_said word i) 3 after next
cell-put word i h q = record { stored = q.stored; follows = q.follows; short = cell-long word i h }
