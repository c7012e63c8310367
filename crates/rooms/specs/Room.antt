-- How much more a cell of a site could carry, as a call on a site record. Cells are named by number, from 1.
-- "for each cell how much more it could carry with all else as it is (exact in the class, "at least" elsewhere: say which)"
use Rattle.std.specs.Prelude.{ℕ, ◌+◌, ◌-◌, ◌^◌, not, ◌&&◌, Result, Ok, Err}
use Rattle.std.specs.Result.{result_and}
use Rattle.std.specs.Int.Bits.{bit_and}
use Rattle.laws.specs.Bits.{bit_at, set_bit, word_of}
use Rattle.theory.specs.Net.{Net}
use Rattle.theory.specs.Verdict.{ClassVerdict, in_class, outside, class_verdict}
use Rattle.roomy.specs.Room.{counted_with, room_left}
use Rattle.site.specs.Record.{load_at}
use Rattle.site.specs.Edit.{load_edit_fault, with_load}
use Rattle.site.specs.Reach.{net_of}
use Rattle.site.specs.declared.Site.{Site}
use Rattle.site.specs.declared.Fault.{Fault}
use Rattle.rooms.specs.declared.Room.{Room}
use Rattle.rooms.specs.declared.Room.TheVariants.{Exactly, AtLeast}

-- exactly so much in the class, at least so much elsewhere
abbrev pub room_by : ClassVerdict → ℕ → Room
room_by in_class m = Exactly m
room_by (outside a b i) m = AtLeast m

-- of the cell at index i. The class is that of the cells that count once this one has a load
unfoldable pub room_in : Net → ℕ → Room
room_in s i = room_by (class_verdict s (counted_with s i)) (room_left s i)

-- the record's faults, then 2 for a cell that the site does not have, as an edit of a load has them
unfoldable pub room_answer : Site → ℕ → Result Room Fault
room_answer s cell = result_and (load_edit_fault s cell) (Ok (room_in (net_of s) (cell - 1)))

-- "with all else as it is": the site with m more in the load of the cell of this number
abbrev pub with_more : Site → ℕ → ℕ → Site
with_more s cell m = with_load s (cell - 1) (load_at s (cell - 1) + m)

-- how much an answer says
abbrev pub more_of : Result Room Fault → ℕ
more_of (Ok (Exactly m)) = m
more_of (Ok (AtLeast m)) = m
more_of (Err f) = 0

-- ---- as the code has it: the word of the cell at index k and of those cells of two words that stand above it
abbrev pub touched_word : (who row k : ℕ) → ℕ
touched_word who row k = set_bit (word_of (λ b. bit_at (bit_and who row) b && not (bit_at (2 ^ k - 1) b)) 32) k
