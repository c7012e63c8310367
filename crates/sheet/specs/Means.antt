-- What the reader's answer means, said a second time over the format alone: no word of how the reader goes.
-- proofs/Answers shows that the answer says this and nothing else.
use Rattle.std.specs.Prelude.{ℕ, ◌+◌, ◌*◌, ◌^◌, ◌<◌, ◌≤◌, ◌≡◌, true, false, ◌&&◌, List, ◌∷◌, ◌++◌, ◌⊎◌, ltb, length, get_or, Result, Ok, Err}
use Rattle.laws.specs.Choice.{pick}
use Rattle.laws.specs.Search.{first}
use Rattle.text.specs.Decimal.{decimal}
use Rattle.lines.specs.Format.{header, label, cell_line, bits_of}
use Rattle.positions.specs.Blocked.{most_positions, blocked_at}
use Rattle.site.specs.Record.{load_at, row_of, positions, up_to, rule_ok, extra_blocked}
use Rattle.site.specs.Reach.{reaches}
use Rattle.site.specs.Means.{UpTo}
use Rattle.site.specs.declared.Site.{Site}
use Rattle.site.specs.declared.Fault.{Fault}
use Rattle.site.specs.declared.Fault.TheVariants.{Size, Rule, Reach, Blocked}
use Rattle.site.specs.Held.{Held}
use Rattle.sheet.specs.Sheet.{lines_from, sheet_bytes}

-- what the type of the code gives of the blocked set beside a sheet: 32 words of 64 bits
pub record BlockedHeld (blocked : List ℕ) : Type 0 where
  pub long : length blocked ≡ 32
  pub fits : (k : ℕ) → k < 32 → get_or blocked k 0 < 2 ^ 64

-- a record that a sheet can hold, fine or not: 1 to 32 cells, and no load, row or bit beyond them. Its slots, channels and rule may be out of range, a cell may
-- mark itself, and any position may be blocked. `held` is what the types of the code give
pub record FitsSheet (s : Site) : Type 0 where
  pub held : Held s
  pub cells : UpTo 32 s.cells
  pub loads_past : (k : ℕ) → s.cells ≤ k → k < 32 → load_at s k ≡ 0
  pub rows_past : (k : ℕ) → s.cells ≤ k → k < 32 → row_of s k ≡ 0
  pub rows : (k : ℕ) → k < s.cells → row_of s k < 2 ^ s.cells

-- "its first bad line (from 1; missing and extra lines count)": line l of the bytes b
pub data FirstBadOfSheet (b : List ℕ) (l : ℕ) : Type 0 where
  -- b begins with no first line, of any number of cells
  no_first_line : l ≡ 1 → ((n : ℕ) (r : List ℕ) → UpTo 32 n → b ≡ header n ++ r → ⊥) → FirstBadOfSheet b l
  -- a first line and the lines of k cells stand there, as the format has them, and then no line of the next cell, whatever its load and its marks
  no_cell_line : (s : Site) (k : ℕ) (rest : List ℕ) → l ≡ k + 2 → FitsSheet s → k < s.cells → b ≡ header s.cells ++ (lines_from s 0 k ++ rest)
      → ((load row : ℕ) (r : List ℕ) → load ≤ 65535 → rest ≡ cell_line s.cells k load (bits_of row) ++ r → ⊥) → FirstBadOfSheet b l
  -- a whole sheet stands there, and something after it
  one_too_many : (s : Site) (x : ℕ) (rest : List ℕ) → l ≡ s.cells + 2 → FitsSheet s → b ≡ sheet_bytes s ++ (x ∷ rest) → FirstBadOfSheet b l

-- the bytes are the sheet of this record, and it has these slots, channels and blocked positions, and this rule
pub record SheetOf (b : List ℕ) (slots channels : ℕ) (blocked : List ℕ) (rule : ℕ) (s : Site) : Type 0 where
  pub fits : FitsSheet s
  pub slots_are : s.slots ≡ slots
  pub channels_are : s.channels ≡ channels
  pub blocked_are : s.blocked ≡ blocked
  pub rule_is : s.rule ≡ rule
  pub bytes : sheet_bytes s ≡ b

-- the lowest cell, by index, that reaches itself; I where none does
unfoldable pub own_mark : Site → ℕ
own_mark s = first (λ k. reaches s.reach k k) 0 s.cells

-- "after it 1, then 3 for a mark on oneself": slots or channels out of range, then the lowest row that marks itself; never 2.
-- W8: "20, blocked bit at or past FT (the lowest), after 3". W11: "24, rule not 1 or 2 in a record, .. after 1"
unfoldable pub sheet_fault : Site → Result Unit Fault
sheet_fault s =
    pick (up_to 128 s.slots && up_to 16 s.channels)
    (pick (rule_ok s.rule)
    (pick (ltb (own_mark s) s.cells) (Err (Reach (own_mark s + 1)))
    (pick (ltb (extra_blocked s) most_positions) (Err (Blocked (extra_blocked s))) (Ok tt)))
    (Err Rule))
    (Err Size)

-- when it is 3, word for word: slots, channels and rule are in range, and the cell at index k is the lowest that marks itself
pub record MarksItself (s : Site) (k : ℕ) : Type 0 where
  pub slots : UpTo 128 s.slots
  pub channels : UpTo 16 s.channels
  pub ruled : (s.rule ≡ 1) ⊎ (s.rule ≡ 2)
  pub cell : k < s.cells
  pub itself : reaches s.reach k k ≡ true
  pub lower : (j : ℕ) → j < k → reaches s.reach j j ≡ false

-- when it is 20: slots, channels and rule are in range, no cell marks itself, and position k is the lowest blocked one that the site does not have
pub record BlockedPast (s : Site) (k : ℕ) : Type 0 where
  pub slots : UpTo 128 s.slots
  pub channels : UpTo 16 s.channels
  pub ruled : (s.rule ≡ 1) ⊎ (s.rule ≡ 2)
  pub unmarked : (j : ℕ) → j < s.cells → reaches s.reach j j ≡ false
  pub past : positions s ≤ k
  pub most : k < most_positions
  pub there : blocked_at s.blocked k ≡ true
  pub lower : (j : ℕ) → positions s ≤ j → j < k → blocked_at s.blocked j ≡ false

-- where the mark of the cell at index b stands, in the line of the cell at index a: after the first line, the lines before, the cell's number and comma, its
-- load, and for each mark before it a comma and a digit, then a comma
unfoldable pub mark_place : Site → ℕ → ℕ → ℕ
mark_place s a b = length (header s.cells) + (length (lines_from s 0 a) + (length (label a) + (length (decimal (load_at s a)) + (2 * b + 1))))
