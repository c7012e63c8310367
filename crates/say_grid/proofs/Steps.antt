-- The parts of a line: a blank, the number of a slot, a column more. Assumes nothing.
use Prim.Native.Nat.{ℕ, ◌+◌, ◌-◌, ◌≤◌, ◌<◌}
use mathlib.Core.Path.{◌≡◌, refl, ap}
use mathlib.Core.Bool.{true, not}
use mathlib.Core.List.{List, [], ◌∷◌}
use native.Mathlib.Omega.{arith}
use lib.Dec.{ltb}
use lib.ListN.{length, length-append}
use borrow.Author.Tests.{ltb-false, leb-true, not-true}
use Rattle.laws.specs.Sum.{sum}
use Rattle.laws.proofs.Choice.{both}
use Rattle.laws.proofs.Most.{most-above}
use Rattle.laws.proofs.Sums.{sum_more}
use Rattle.text.proofs.Digits.{decimal-long}
use Rattle.speech.specs.Speech.{spoken}
use Rattle.site.specs.declared.Site.{Site}
use Rattle.phrases.specs.Phrases.{phrase}
use Rattle.phrases.specs.Put.{Put}
use Rattle.phrases.specs.declared.Phrase.TheVariants.{Row}
use Rattle.say_faults.specs.Said.{judgeable}
use Rattle.say_grid.specs.Lines.{grid_lines, slot_number_row, blank_row}
use Rattle.say_grid.specs.Grid.{entry_said, column_width, line_there, piece_width}

blank-is : phrase grid_lines (Row blank_row 0 0 0 0) ≡ 32 ∷ []
unfolding grid_lines spoken
blank-is = refl

-- a blank takes one byte
pub blank-put : {before after : List ℕ} {at next : ℕ} → Put before at (phrase grid_lines (Row blank_row 0 0 0 0)) 500 after next
    → Put before at (32 ∷ []) 1 after next
blank-put q = let e = rw blank-is at q in record { stored = e.stored; follows = e.follows; short = omega arith }

number-long : (slot : ℕ) → slot < 128 → length (phrase grid_lines (Row slot_number_row (slot + 1) 0 0 0)) ≤ 3
unfolding grid_lines spoken
number-long slot h = simp length-append (omega (arith, decimal-long 2 (slot + 1) (omega arith)))

-- and the number of a slot takes no more room than a place
pub number_put : (slot : ℕ) → slot < 128 → {before after : List ℕ} {at next : ℕ}
    → Put before at (phrase grid_lines (Row slot_number_row (slot + 1) 0 0 0)) 500 after next
    → Put before at (phrase grid_lines (Row slot_number_row (slot + 1) 0 0 0)) 156 after next
number_put slot h q = record { stored = q.stored; follows = q.follows; short = omega (arith, number-long slot h) }

-- a slot more
pub piece-more : (s : Site) (t : List ℕ) (from m : ℕ) → piece_width s t from (m + 1) ≡ piece_width s t from m + 2 + column_width s t (from + m)
unfolding piece_width
piece-more s t from m = omega (arith, sum_more (λ j. column_width s t (from + j) + 2) m)

pub piece-one : (s : Site) (t : List ℕ) (from : ℕ) → piece_width s t from 1 ≡ 12 + column_width s t from
unfolding piece_width sum
piece-one s t from = let e : column_width s t (from + 0) ≡ column_width s t from = ap (column_width s t) (omega arith) in omega (arith, e)

-- what stands in a column fits it
pub entry-fits : (s : Site) (t : List ℕ) (line slot : ℕ) → line ≤ s.channels → length (entry_said s t line slot) ≤ column_width s t slot
unfolding column_width
entry-fits s t line slot h = most-above (λ l. length (entry_said s t l slot)) (s.channels + 1) line (omega arith)

-- what a line that is there has
pub there_has : (s : Site) (t : List ℕ) (line from many : ℕ) → line_there s t line from many ≡ true
    → (judgeable s t ≡ true) × (line ≤ s.channels) × (from + many ≤ s.slots)
unfolding line_there
there_has s t line from many e =
    let a = both (judgeable s t) _ e in
    let b = both (not (ltb s.channels line)) _ a.1 in
    let d = both (not (ltb s.slots from)) _ b.1 in
    let l = ltb-false s.channels line (not-true _ b.0) in
    let f = ltb-false s.slots from (not-true _ d.0) in
    let m = leb-true many (s.slots - from) d.1 in
    (a.0, l, omega (arith, f, m))
