-- What some bad lines tell, computed: each reason once, and a good sheet tells none. Assumes nothing.
use Prim.Native.Nat.{ℕ}
use mathlib.Core.List.{List, [], ◌∷◌, ◌++◌}
use mathlib.Core.Path.{◌≡◌, refl}
use Rattle.text.specs.Decimal.{digits_of, decimal}
use Rattle.lines.specs.Match.{starts}
use Rattle.lines.specs.Format.{column, columns, header}
use Rattle.lines.specs.Content.{columns_in, cells_of_line, head_ok, head_read}
use Rattle.std.specs.Prelude.{Option, Some}
use Rattle.linefaults.specs.declared.LineFault.{LineFault}
use Rattle.linefaults.specs.declared.LineFault.TheVariants.{Missing, Extra, OrderMark, Semicolon, Tab, Quote, Blank, FeedAlone, NoEnd}
use Rattle.linefaults.specs.declared.LineFault.TheVariants.{LeadingZero, OverLarge, NoNumber, NoMark, FewFields, ManyFields, LoneCr}
use Rattle.linefaults.specs.Fault.{untold, after_lines, number_after, field_after, is_word, is_mark}
use Rattle.linefaults.specs.Fault.{odd_byte, empty_at, comma_at, cr_at, lf_at}
use Rattle.linefaults.specs.Fault.{mark_fault, is_zero, number_at, content_at, fault_at, end_fault, fault_from, head_fault, cell_fault, fault_of_line}

-- cell,load,1,2
abbrev first : List ℕ
first = 99 ∷ 101 ∷ 108 ∷ 108 ∷ 44 ∷ 108 ∷ 111 ∷ 97 ∷ 100 ∷ 44 ∷ 49 ∷ 44 ∷ 50 ∷ 13 ∷ 10 ∷ []

-- what the line below it tells
abbrev second : List ℕ → Option LineFault
second l = fault_of_line (first ++ l) 2

pub cells_told :
    -- 1;5,0,1 and 1,5 TAB and "1" and 1, 5
    second (49 ∷ 59 ∷ 53 ∷ 44 ∷ 48 ∷ 44 ∷ 49 ∷ 13 ∷ 10 ∷ [])
    ∷ second (49 ∷ 44 ∷ 53 ∷ 9 ∷ [])
    ∷ second (34 ∷ 49 ∷ 34 ∷ [])
    ∷ second (49 ∷ 44 ∷ 32 ∷ 53 ∷ [])
    -- 1,5,0,1 LF; and without any end
    ∷ second (49 ∷ 44 ∷ 53 ∷ 44 ∷ 48 ∷ 44 ∷ 49 ∷ 10 ∷ [])
    ∷ second (49 ∷ 44 ∷ 53 ∷ 44 ∷ 48 ∷ 44 ∷ 49 ∷ [])
    -- 1,05 and 1,65536 and 1,a
    ∷ second (49 ∷ 44 ∷ 48 ∷ 53 ∷ [])
    ∷ second (49 ∷ 44 ∷ 54 ∷ 53 ∷ 53 ∷ 51 ∷ 54 ∷ [])
    ∷ second (49 ∷ 44 ∷ 97 ∷ [])
    -- 1,5,,1 and 1,5,x,1 and 1,5,0 and 1,5,0,1,0
    ∷ second (49 ∷ 44 ∷ 53 ∷ 44 ∷ 44 ∷ 49 ∷ 13 ∷ 10 ∷ [])
    ∷ second (49 ∷ 44 ∷ 53 ∷ 44 ∷ 120 ∷ 44 ∷ 49 ∷ 13 ∷ 10 ∷ [])
    ∷ second (49 ∷ 44 ∷ 53 ∷ 44 ∷ 48 ∷ 13 ∷ 10 ∷ [])
    ∷ second (49 ∷ 44 ∷ 53 ∷ 44 ∷ 48 ∷ 44 ∷ 49 ∷ 44 ∷ 48 ∷ 13 ∷ 10 ∷ [])
    -- a CR and no LF; no line; and a good one
    ∷ second (49 ∷ 44 ∷ 53 ∷ 44 ∷ 48 ∷ 44 ∷ 49 ∷ 13 ∷ 44 ∷ [])
    ∷ second []
    ∷ second (49 ∷ 44 ∷ 53 ∷ 44 ∷ 48 ∷ 44 ∷ 49 ∷ 13 ∷ 10 ∷ [])
    ∷ []
    ≡ Some (Semicolon 2) ∷ Some (Tab 4) ∷ Some (Quote 1) ∷ Some (Blank 3) ∷ Some FeedAlone ∷ Some NoEnd ∷ Some (LeadingZero 2) ∷ Some (OverLarge 2)
    ∷ Some (NoNumber 2) ∷ Some (NoMark 3) ∷ Some (NoMark 3) ∷ Some (FewFields 3) ∷ Some (ManyFields 5) ∷ Some (LoneCr 9) ∷ Some Missing ∷ untold ∷ []
unfolding fault_of_line head_fault cell_fault head_read head_ok cells_of_line columns_in starts header columns column decimal digits_of after_lines fault_from
    end_fault
    fault_at content_at number_at is_zero mark_fault lf_at cr_at comma_at empty_at odd_byte is_mark is_word field_after number_after
cells_told = refl

-- the first line: a mark of the byte order, a semicolon, LF alone; a line too many; and a good one
pub heads-told :
    fault_of_line (239 ∷ 187 ∷ 191 ∷ first) 1
    ∷ fault_of_line (99 ∷ 101 ∷ 108 ∷ 108 ∷ 59 ∷ []) 1
    ∷ fault_of_line (99 ∷ 44 ∷ 108 ∷ 44 ∷ 49 ∷ 10 ∷ []) 1
    ∷ fault_of_line first 4
    ∷ fault_of_line first 1
    ∷ []
    ≡ Some OrderMark ∷ Some (Semicolon 5) ∷ Some FeedAlone ∷ Some Extra ∷ untold ∷ []
unfolding fault_of_line head_fault cell_fault head_read head_ok cells_of_line columns_in starts header columns column decimal digits_of after_lines fault_from
    end_fault
    fault_at content_at number_at is_zero mark_fault lf_at cr_at comma_at empty_at odd_byte is_mark is_word field_after number_after
heads-told = refl
