-- One more cell of a set is said by one more phrase, which is short. Assumes nothing.
use Prim.Native.Nat.{ℕ, ◌+◌, ◌≤◌}
use mathlib.Core.Path.{◌≡◌, refl, ap}
use mathlib.Core.Bool.{◌&&◌}
use mathlib.Core.List.{◌++◌}
use mathlib.Core.Logic.{⊎_elim}
use native.Mathlib.Numerals.{add-one}
use native.Mathlib.Omega.{arith}
use lib.Dec.{ltb}
use lib.ListN.{length}
use Rattle.laws.specs.Bits.{bit_at}
use Rattle.laws.proofs.Choice.{cases}
use Rattle.speech.specs.Speech.{bytes}
use Rattle.phrases.specs.Phrases.{phrase, row_named, text_of, row_in, part_in}
use Rattle.phrases.proofs.Table.{row_is}
use Rattle.finds.specs.Lines.{last_lines, last_later_row}
use Rattle.finds.specs.Last.{lowest_of, later_phrase, later_said}

pub later_more : (x j : ℕ) → later_said x (j + 1) ≡ later_said x j ++ phrase last_lines (later_phrase x j)
unfolding later_said
later_more x j = ap (later_said x) (add-one j)

-- the row of such a cell has 4 bytes
later-row : row_in (text_of last_lines) last_later_row ≡ bytes (row_named last_lines last_later_row)
unfolding last_lines
later-row = row_is last_lines refl last_later_row

later-long : length (bytes (row_named last_lines last_later_row)) ≡ 4
unfolding last_lines
later-long = refl

pub later-room : (x j : ℕ) → length (part_in (text_of last_lines) (later_phrase x j)) ≤ 4
unfolding later_phrase
later-room x j =
    ⊎_elim (λ e. rw e (omega (arith, ap length later-row, later-long))) (λ e. rw e (omega arith)) (cases (ltb (lowest_of x) j && bit_at x j))
