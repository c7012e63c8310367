-- What a reason says of the line, apart from how it is found: over the bytes before the place, and the byte there.
use Rattle.std.specs.Prelude.{ℕ, ◌+◌, ◌-◌, ◌≤◌, ◌<◌, ◌≡◌, Bool, true, not, ◌&&◌, List, [], ◌∷◌, ◌++◌, ◌⊎◌, eqb, length}
use Rattle.laws.specs.Sum.{bit}
use Rattle.linefaults.specs.declared.Field.{Field}
use Rattle.linefaults.specs.declared.Seen.TheVariants.{Nothing, One}
use Rattle.linefaults.specs.declared.LineFault.{LineFault}
use Rattle.linefaults.specs.declared.LineFault.TheVariants.{Extra, OrderMark, Semicolon, Tab, Quote, Blank, FeedAlone}
use Rattle.linefaults.specs.declared.LineFault.TheVariants.{LeadingZero, OverLarge, NoNumber, NoMark, FewFields, ManyFields, LoneCr}
use Rattle.lines.specs.Match.{starts}
use Rattle.lines.specs.Content.{head_read}
use Rattle.cleaning.specs.Clean.{order_mark}
use Rattle.linefaults.specs.Fault.{first_field, number_after, field_after, is_mark, after_lines, end_fault}

-- ---- the bytes before

-- no line end is among them
unfoldable pub in_line : List ℕ → Bool
in_line [] = true
in_line (b ∷ l) = not (eqb b 10) && in_line l

unfoldable pub commas : List ℕ → ℕ
commas [] = 0
commas (b ∷ l) = bit (eqb b 44) + commas l

-- the last of them; d where there is none
unfoldable pub last_of : ℕ → List ℕ → ℕ
last_of d [] = d
last_of d (b ∷ l) = last_of b l

-- where the byte after them stands
unfoldable pub walked : Field → List ℕ → Field
walked f [] = f
walked f (b ∷ l) = walked (field_after f b) l

-- ---- the reasons that a byte gives, at its field f; the byte is the character `at` of the line, and `fields` is how many the line has to have

pub data Because (fields at : ℕ) (f : Field) (b : ℕ) : LineFault → Type 0 where
  semicolon_there : b ≡ 59 → Because fields at f b (Semicolon at)
  tab_there : b ≡ 9 → Because fields at f b (Tab at)
  quote_there : b ≡ 34 → Because fields at f b (Quote at)
  blank_there : b ≡ 32 → Because fields at f b (Blank at)
  -- "the line ends in LF alone": the byte before is no CR
  feed_there : b ≡ 10 → (f.last ≡ 13 → ⊥) → Because fields at f b FeedAlone
  -- one more digit after a number that is 0
  zero_there : 48 ≤ b → b ≤ 57 → f.seen ≡ One → f.value ≡ 0 → Because fields at f b (LeadingZero f.column)
  large_there : 48 ≤ b → b ≤ 57 → 65535 < number_after f.value b → Because fields at f b (OverLarge f.column)
  -- a number ends with nothing in it, or has a byte that is no digit
  number_empty : (b ≡ 44) ⊎ (b ≡ 13) → f.seen ≡ Nothing → Because fields at f b (NoNumber f.column)
  digit_not : (b < 48) ⊎ (57 < b) → Because fields at f b (NoNumber f.column)
  -- a mark ends with nothing in it, or has a byte that is neither 0 nor 1, or a second one
  mark_empty : (b ≡ 44) ⊎ (b ≡ 13) → is_mark fields f ≡ true → f.seen ≡ Nothing → Because fields at f b (NoMark f.column)
  mark_not : is_mark fields f ≡ true → (f.seen ≡ Nothing → (b ≡ 48 → ⊥) × (b ≡ 49 → ⊥)) → Because fields at f b (NoMark f.column)
  -- "too few": the line ends in a column before the last
  fields_few : b ≡ 13 → f.column < fields → Because fields at f b (FewFields f.column)
  -- "too many": a comma after the last column
  fields_many : b ≡ 44 → f.column ≡ fields → Because fields at f b (ManyFields (f.column + 1))
  -- the byte before is a CR, and this is no LF
  lone_there : f.last ≡ 13 → (b ≡ 10 → ⊥) → Because fields at f b (LoneCr at)

-- ---- a reason that is told stands at a byte of the line, or the sheet ends in the line

pub record StandsAt (fields at : ℕ) (f : Field) (line : List ℕ) (x : LineFault) : Type 0 where
  pub before : List ℕ
  pub byte : ℕ
  pub rest : List ℕ
  pub parts : line ≡ before ++ (byte ∷ rest)
  pub inside : in_line before ≡ true
  pub because : Because fields (at + length before) (walked f before) byte x

pub data Shown (fields at : ℕ) (f : Field) (line : List ℕ) (x : LineFault) : Type 0 where
  stands : StandsAt fields at f line x → Shown fields at f line x
  ends : in_line line ≡ true → x ≡ end_fault (at + length line) → Shown fields at f line x

-- ---- a reason that is told of a line of a sheet

pub data LineShown (b : List ℕ) (line : ℕ) (x : LineFault) : Type 0 where
  -- the first three bytes of the sheet are the mark of the byte order
  begins_marked : line ≤ 1 → starts order_mark b ≡ true → x ≡ OrderMark → LineShown b line x
  in_first : line ≤ 1 → Shown 0 1 first_field b x → LineShown b line x
  -- the sheet has a first line, and this line is after those of its cells
  after_cells : 1 < line → ((head_read b).cells ≡ 0 → ⊥) → (head_read b).cells + 1 < line → x ≡ Extra → LineShown b line x
  in_cell-law : 1 < line → Shown ((head_read b).cells + 2) 1 first_field (after_lines (line - 1) b) x → LineShown b line x
