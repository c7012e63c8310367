-- Sheets cleaned, computed byte by byte. Assumes nothing.
use Prim.Native.Nat.{ℕ}
use mathlib.Core.List.{List, [], ◌∷◌}
use mathlib.Core.Path.{◌≡◌, refl}
use Rattle.lines.specs.Match.{starts}
use Rattle.cleaning.specs.Clean.{is_separator, separator_in, next_column, on_blank, on_quote, is_reach, is_late, on_content, mend_of, comma_change}
use Rattle.cleaning.specs.Clean.{on_separator}
use Rattle.cleaning.specs.Clean.{on_cr, on_lf, after_cr, on_field, step_of, is_fresh, end_of, byte_out, out_of, clean_from, begins, cleaned}
use Rattle.cleaning.specs.Clean.{makes, noted, line_after, changes_from, mark_change, changes_of}

-- the mark of the byte order, then "cell";"load";1;2 and 1; 5;;"x" and 2;7;x;0 with LF alone, the last without any end
abbrev exported : List ℕ
exported =
    239 ∷ 187 ∷ 191 ∷ 34 ∷ 99 ∷ 101 ∷ 108 ∷ 108 ∷ 34 ∷ 59 ∷ 34 ∷ 108 ∷ 111 ∷ 97 ∷ 100 ∷ 34 ∷ 59 ∷ 49 ∷ 59 ∷ 50 ∷ 10 ∷
    49 ∷ 59 ∷ 32 ∷ 53 ∷ 59 ∷ 59 ∷ 34 ∷ 120 ∷ 34 ∷ 10 ∷
    50 ∷ 59 ∷ 55 ∷ 59 ∷ 120 ∷ 59 ∷ 48 ∷ []

-- cell,load,1,2 and 1,5,0,1 and 2,7,1,0
abbrev good : List ℕ
good =
    99 ∷ 101 ∷ 108 ∷ 108 ∷ 44 ∷ 108 ∷ 111 ∷ 97 ∷ 100 ∷ 44 ∷ 49 ∷ 44 ∷ 50 ∷ 13 ∷ 10 ∷
    49 ∷ 44 ∷ 53 ∷ 44 ∷ 48 ∷ 44 ∷ 49 ∷ 13 ∷ 10 ∷
    50 ∷ 44 ∷ 55 ∷ 44 ∷ 49 ∷ 44 ∷ 48 ∷ 13 ∷ 10 ∷ []

pub export-cleaned : cleaned exported ≡ good
unfolding cleaned clean_from begins starts separator_in is_separator next_column on_blank on_quote is_reach is_late on_content mend_of comma_change on_separator
    on_cr on_lf
    after_cr on_field step_of is_fresh end_of byte_out out_of
export-cleaned = refl

-- what was changed in it: how often, and in which line first
pub export-changes :
    changes_of exported 1 ∷ changes_of exported 2 ∷ changes_of exported 3 ∷ changes_of exported 4 ∷ changes_of exported 5 ∷ changes_of exported 6
    ∷ changes_of exported 7 ∷ changes_of exported 8 ∷ []
    ≡ record { times = 1; line = 1 } ∷ record { times = 9; line = 1 } ∷ record { times = 2; line = 1 } ∷ record { times = 6; line = 1 }
    ∷ record { times = 1; line = 2 } ∷ record { times = 1; line = 2 } ∷ record { times = 2; line = 2 } ∷ record { times = 1; line = 3 } ∷ []
unfolding cleaned clean_from begins starts separator_in is_separator next_column on_blank on_quote is_reach is_late on_content mend_of comma_change on_separator
    on_cr on_lf
    after_cr on_field step_of is_fresh end_of byte_out out_of makes noted line_after changes_from mark_change changes_of
export-changes = refl

-- a comma inside quotes, a blank inside a number, a comma in a sheet with semicolons: each keeps a quote, which no line of the format has
pub spoiled-lines :
    cleaned (34 ∷ 49 ∷ 44 ∷ 50 ∷ 34 ∷ []) ∷ cleaned (49 ∷ 32 ∷ 50 ∷ []) ∷ cleaned (49 ∷ 59 ∷ 53 ∷ 44 ∷ 48 ∷ []) ∷ []
    ≡ (49 ∷ 34 ∷ 44 ∷ 50 ∷ 34 ∷ 34 ∷ 13 ∷ 10 ∷ []) ∷ (49 ∷ 34 ∷ 50 ∷ 13 ∷ 10 ∷ []) ∷ (49 ∷ 44 ∷ 53 ∷ 34 ∷ 44 ∷ 48 ∷ 13 ∷ 10 ∷ []) ∷ []
unfolding cleaned clean_from begins starts separator_in is_separator next_column on_blank on_quote is_reach is_late on_content mend_of comma_change on_separator
    on_cr on_lf
    after_cr on_field step_of is_fresh end_of byte_out out_of
spoiled-lines = refl
