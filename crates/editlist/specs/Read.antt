-- What two words read as, of any bytes at all. A word is read from its first byte, and it is good where it ends with what was read.
use Rattle.std.specs.Prelude.{ℕ, Bool, List, [], ◌∷◌, leb, eqb, length, Option, Some, None, Result, Ok, Err}
use Rattle.laws.specs.Choice.{pick}
use Rattle.lines.specs.Match.{eaten}
use Rattle.lines.specs.Content.{number_read}
use Rattle.editlist.specs.Format.{load_word, reach_word, clear_word, blocked_word, rule_word, slots_word, channels_word, none_word, equals_mark, dash_mark}
use Rattle.editlist.specs.Format.{largest}
use Rattle.editlist.specs.declared.Kind.{Kind}
use Rattle.editlist.specs.declared.Kind.TheVariants.{OfLoad, OfReach, OfClear, OfBlocked, OfRule, OfSlots, OfChannels}
use Rattle.editlist.specs.declared.Edit.{Edit}
use Rattle.editlist.specs.declared.Edit.TheVariants.{SetLoad, SetReach, ClearReach, SetRule, SetSlots, SetChannels, Unblock}
use Rattle.editlist.specs.declared.EditRead.{EditRead}
use Rattle.editlist.specs.declared.EditRead.TheVariants.{Done, Listed}
use Rattle.editlist.specs.declared.EditError.{EditError}
use Rattle.editlist.specs.declared.EditError.TheVariants.{NoEdit, Bad}

-- the word s is the text w
unfoldable pub is_text : List ℕ → List ℕ → Bool
is_text s w = eqb (eaten s 0 w) (length s)

-- the kind of an edit, by its name
unfoldable pub kind_of : List ℕ → Option Kind
kind_of s =
    pick (is_text s load_word) (Some OfLoad)
    (pick (is_text s reach_word) (Some OfReach)
    (pick (is_text s clear_word) (Some OfClear)
    (pick (is_text s blocked_word) (Some OfBlocked)
    (pick (is_text s rule_word) (Some OfRule)
    (pick (is_text s slots_word) (Some OfSlots)
    (pick (is_text s channels_word) (Some OfChannels) None))))))

-- "Numbers are plain, 0 to 65,535, without leading zeros": one that is all of the word
unfoldable pub one_read : List ℕ → Result ℕ EditError
one_read s = let a = number_read s 0 largest in
    pick (leb a.value largest) (pick (eqb a.next (length s)) (Ok a.value) (Err Bad)) (Err Bad)

-- two of them, with a mark between
unfoldable pub two_read : List ℕ → ℕ → Result (ℕ × ℕ) EditError
two_read s mark = let a = number_read s 0 largest in
    let b = number_read s (eaten s a.next (mark ∷ [])) largest in
    pick (eqb b.next (length s)) (Ok (a.value, b.value)) (Err Bad)

-- what is read, made of what the word holds
abbrev pub read_as : {T : Type 0} → (T → Result EditRead EditError) → Result T EditError → Result EditRead EditError
read_as f (Ok x) = f x
read_as f (Err e) = Err e

abbrev pub edit_done : Edit → Result EditRead EditError
edit_done e = Ok (Done e)

-- "`load CELL=LOAD`"
unfoldable pub load_edit : ℕ → ℕ → Result Edit EditError
load_edit cell load = pick (leb load largest) (Ok (SetLoad cell load)) (Err Bad)

abbrev pub load_read : List ℕ → Result EditRead EditError
load_read s = read_as (λ t. read_as edit_done (load_edit t.0 t.1)) (two_read s equals_mark)

-- "`reach FROM-TO`, `clear FROM-TO`"
abbrev pub reach_typed : List ℕ → Result EditRead EditError
reach_typed s = read_as (λ t. edit_done (SetReach t.0 t.1)) (two_read s dash_mark)

abbrev pub clear_read : List ℕ → Result EditRead EditError
clear_read s = read_as (λ t. edit_done (ClearReach t.0 t.1)) (two_read s dash_mark)

-- "`blocked LIST`", or none
abbrev pub list_read : List ℕ → Result EditRead EditError
list_read s = pick (is_text s none_word) (edit_done Unblock) (Ok Listed)

-- "`rule R`, `slots T`, `channels F`"
abbrev pub rule_read : List ℕ → Result EditRead EditError
rule_read s = read_as (λ v. edit_done (SetRule v)) (one_read s)

abbrev pub slots_read : List ℕ → Result EditRead EditError
slots_read s = read_as (λ v. edit_done (SetSlots v)) (one_read s)

abbrev pub channels_read : List ℕ → Result EditRead EditError
channels_read s = read_as (λ v. edit_done (SetChannels v)) (one_read s)

-- the second word, by the kind
abbrev pub value_read : Kind → List ℕ → Result EditRead EditError
value_read OfLoad s = load_read s
value_read OfReach s = reach_typed s
value_read OfClear s = clear_read s
value_read OfBlocked s = list_read s
value_read OfRule s = rule_read s
value_read OfSlots s = slots_read s
value_read OfChannels s = channels_read s

-- the second word where the first is the name of an edit
abbrev pub value_by_kind : Option Kind → List ℕ → Result EditRead EditError
value_by_kind None s = Err NoEdit
value_by_kind (Some k) s = value_read k s

unfoldable pub read_edit : List ℕ → List ℕ → Result EditRead EditError
read_edit name value = value_by_kind (kind_of name) value
