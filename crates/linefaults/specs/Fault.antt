-- What is wrong with a line of a range sheet, where it can be told: the first byte, from the left, that cannot stand there, and why. Lines, columns and
-- characters are counted from 1. The strict reader says which line is bad; this says why.
use Rattle.std.specs.Prelude.{ℕ, zero, suc, ◌+◌, ◌-◌, ◌*◌, Bool, true, false, ◌&&◌, ◌||◌, not, List, [], ◌∷◌, ltb, leb, eqb, Option, Some, None}
use Rattle.std.specs.Option.{option_or}
use Rattle.laws.specs.Choice.{pick}
use Rattle.lines.specs.Format.{comma_byte, cr_byte, lf_byte}
use Rattle.lines.specs.Match.{starts}
use Rattle.lines.specs.Content.{head_read}
use Rattle.cleaning.specs.Clean.{order_mark}
use Rattle.linefaults.specs.declared.Field.{Field}
use Rattle.linefaults.specs.declared.Seen.{Seen}
use Rattle.linefaults.specs.declared.Seen.TheVariants.{Nothing, One, More}
use Rattle.linefaults.specs.declared.LineFault.{LineFault}
use Rattle.linefaults.specs.declared.LineFault.TheVariants.{Missing, Extra, OrderMark, Semicolon, Tab, Quote, Blank, FeedAlone, NoEnd}
use Rattle.linefaults.specs.declared.LineFault.TheVariants.{LeadingZero, OverLarge, NoNumber, NoMark, FewFields, ManyFields, LoneCr}

-- nothing that can be told
abbrev pub untold : Option LineFault
untold = None

-- ---- the line

-- what comes after so many line ends
unfoldable pub after_lines : ℕ → List ℕ → List ℕ
after_lines k [] = []
after_lines zero (b ∷ r) = b ∷ r
after_lines (suc k) (b ∷ r) = pick (eqb b lf_byte) (after_lines k r) (after_lines (suc k) r)

-- ---- where a byte stands: its column, how many bytes of the field came before it, their number, and the byte before it

abbrev pub first_field : Field
first_field = record { column = 1; seen = Nothing; value = 0; last = 0 }

-- 65,536 stands for every number above 65,535
unfoldable pub number_after : ℕ → ℕ → ℕ
number_after v b = pick (leb v 6553) (10 * v + (b - 48)) 65536

abbrev pub seen_after : Seen → Seen
seen_after Nothing = One
seen_after One = More
seen_after More = More

abbrev pub is_nothing : Seen → Bool
is_nothing Nothing = true
is_nothing One = false
is_nothing More = false

abbrev pub seen_one : Seen → Bool
seen_one Nothing = false
seen_one One = true
seen_one More = false

unfoldable pub field_after : Field → ℕ → Field
field_after f b =
    pick (eqb b comma_byte) (record { column = f.column + 1; seen = Nothing; value = 0; last = b })
    (record { column = f.column; seen = seen_after f.seen; value = number_after f.value b; last = b })

-- ---- what a byte may be. `fields` is how many the line has to have; 0 for the first line, which may have any number

-- `cell` and `load` in the first line, which are not looked at
unfoldable pub is_word : ℕ → Field → Bool
is_word fields f = eqb fields 0 && leb f.column 2

unfoldable pub is_mark : ℕ → Field → Bool
is_mark fields f = not (eqb fields 0) && leb 3 f.column

-- "a semicolon or a tab where a comma belongs; quotes"; and blanks
unfoldable pub odd_byte : ℕ → ℕ → Option LineFault
odd_byte at b =
    pick (eqb b 59) (Some (Semicolon at)) (pick (eqb b 9) (Some (Tab at)) (pick (eqb b 34) (Some (Quote at)) (pick (eqb b 32) (Some (Blank at)) untold)))

-- a field that ends with nothing in it: "a blank .. where 0 or 1 belongs"
unfoldable pub empty_at : ℕ → Field → Option LineFault
empty_at fields f =
    pick (is_nothing f.seen) (pick (is_mark fields f) (Some (NoMark f.column)) (pick (is_word fields f) untold (Some (NoNumber f.column)))) untold

-- "too many fields (which column)"
unfoldable pub comma_at : ℕ → Field → Option LineFault
comma_at fields f = pick (eqb f.column fields) (Some (ManyFields (f.column + 1))) (empty_at fields f)

-- "too few"
unfoldable pub cr_at : ℕ → Field → Option LineFault
cr_at fields f = pick (ltb f.column fields) (Some (FewFields f.column)) (empty_at fields f)

-- "the line ends in LF alone"
unfoldable pub lf_at : Field → Option LineFault
lf_at f = pick (eqb f.last cr_byte) untold (Some FeedAlone)

-- "another mark where 0 or 1 belongs"
unfoldable pub mark_fault : Field → ℕ → Option LineFault
mark_fault f b = pick (is_nothing f.seen && (eqb b 48 || eqb b 49)) untold (Some (NoMark f.column))

-- "a number with a leading zero or above 65,535"
unfoldable pub is_zero : Field → Bool
is_zero f = seen_one f.seen && eqb f.value 0

unfoldable pub number_at : Field → ℕ → Option LineFault
number_at f b =
    pick (leb 48 b && leb b 57)
    (pick (is_zero f) (Some (LeadingZero f.column))
    (pick (ltb 65535 (number_after f.value b)) (Some (OverLarge f.column)) untold))
    (Some (NoNumber f.column))

unfoldable pub content_at : ℕ → ℕ → Field → ℕ → Option LineFault
content_at fields at f b = option_or (odd_byte at b) (pick (is_word fields f) untold (pick (is_mark fields f) (mark_fault f b) (number_at f b)))

-- what a byte tells, which is the character `at` of the line
unfoldable pub fault_at : ℕ → ℕ → Field → ℕ → Option LineFault
fault_at fields at f b =
    pick (eqb b lf_byte) (lf_at f)
    (pick (eqb f.last cr_byte) (Some (LoneCr at))
    (pick (eqb b comma_byte) (comma_at fields f) (pick (eqb b cr_byte) (cr_at fields f) (content_at fields at f b))))

-- ---- the answer

unfoldable pub end_fault : ℕ → LineFault
end_fault at = pick (eqb at 1) Missing NoEnd

-- the first byte that tells something
unfoldable pub fault_from : ℕ → ℕ → Field → List ℕ → Option LineFault
fault_from fields at f [] = Some (end_fault at)
fault_from fields at f (b ∷ r) = option_or (fault_at fields at f b) (pick (eqb b lf_byte) untold (fault_from fields (at + 1) (field_after f b) r))

-- the first line, and a cell's line on a sheet of so many cells, 0 where its first line is bad, and nothing can be told
unfoldable pub head_fault : List ℕ → Option LineFault
head_fault b = pick (starts order_mark b) (Some OrderMark) (fault_from 0 1 first_field b)

unfoldable pub cell_fault : ℕ → List ℕ → ℕ → Option LineFault
cell_fault cells b line =
    pick (eqb cells 0) untold (pick (ltb (cells + 1) line) (Some Extra) (fault_from (cells + 2) 1 first_field (after_lines (line - 1) b)))

unfoldable pub fault_of_line : List ℕ → ℕ → Option LineFault
fault_of_line b line = pick (leb line 1) (head_fault b) (cell_fault (head_read b).cells b line)
