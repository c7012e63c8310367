-- Words that are an edit, and words that are none, computed: the reader from a second side. Assumes nothing.
use mathlib.Core.List.{[], ◌∷◌, map}
use mathlib.Core.Path.{◌≡◌, refl}
use Rattle.std.specs.Prelude.{Ok, Err}
use Rattle.text.specs.Decimal.{digits_of, decimal}
use Rattle.lines.specs.Match.{starts, eaten}
use Rattle.lines.specs.Content.{more, scanned, number_read}
use Rattle.editlist.specs.Format.{load_word, blocked_word, rule_word, none_word}
use Rattle.editlist.specs.Read.{is_text, kind_of, one_read, two_read, load_edit, read_edit}
use Rattle.editlist.specs.declared.EditError.TheVariants.{NoEdit, Bad}
use Rattle.editlist.specs.declared.Edit.TheVariants.{SetLoad, SetRule, Unblock}
use Rattle.editlist.specs.declared.EditRead.TheVariants.{Done, Listed}

-- load 2=12 is read; 2=12x, 2=12 with a comma after it, 2=, the empty word, =12, 02=1 and 2=65536 are no loads
pub loads-judged :
    map (read_edit load_word)
    ((50 ∷ 61 ∷ 49 ∷ 50 ∷ [])
    ∷ (50 ∷ 61 ∷ 49 ∷ 50 ∷ 120 ∷ [])
    ∷ (50 ∷ 61 ∷ 49 ∷ 50 ∷ 44 ∷ [])
    ∷ (50 ∷ 61 ∷ [])
    ∷ []
    ∷ (61 ∷ 49 ∷ 50 ∷ [])
    ∷ (48 ∷ 50 ∷ 61 ∷ 49 ∷ [])
    ∷ (50 ∷ 61 ∷ 54 ∷ 53 ∷ 53 ∷ 51 ∷ 54 ∷ [])
    ∷ [])
    ≡ Ok (Done (SetLoad 2 12)) ∷ Err Bad ∷ Err Bad ∷ Err Bad ∷ Err Bad ∷ Err Bad ∷ Err Bad ∷ Err Bad ∷ []
unfolding read_edit kind_of is_text load_edit two_read number_read eaten starts scanned more decimal digits_of
loads-judged = refl

-- rule 2 is read, and rule 2x is bad; blocked none unblocks all, and after blocked any other word is a list; 2 is the name of no edit
pub words-judged :
    read_edit rule_word (50 ∷ []) ∷ read_edit rule_word (50 ∷ 120 ∷ []) ∷ read_edit blocked_word none_word ∷ read_edit blocked_word (50 ∷ [])
    ∷ read_edit (50 ∷ []) none_word ∷ []
    ≡ Ok (Done (SetRule 2)) ∷ Err Bad ∷ Ok (Done Unblock) ∷ Ok Listed ∷ Err NoEdit ∷ []
unfolding read_edit kind_of is_text one_read number_read eaten starts scanned more decimal digits_of
words-judged = refl
