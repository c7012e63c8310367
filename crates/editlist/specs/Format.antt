-- An edit as it is typed, two words as bytes: "`load CELL=LOAD`, `reach FROM-TO`, `clear FROM-TO`, `blocked LIST`, `rule R`, `slots T`, `channels F`".
-- Numbers are plain, 0 to 65,535, without leading zeros. `blocked none` unblocks all.
use Rattle.std.specs.Prelude.{ℕ, Bool, true, ◌&&◌, List, [], ◌∷◌, ◌++◌, leb}
use Rattle.text.specs.Decimal.{decimal}
use Rattle.editlist.specs.declared.Edit.{Edit}
use Rattle.editlist.specs.declared.Edit.TheVariants.{SetLoad, SetReach, ClearReach, SetRule, SetSlots, SetChannels, Unblock}

abbrev pub load_word : List ℕ
load_word = 108 ∷ 111 ∷ 97 ∷ 100 ∷ []  -- load

abbrev pub reach_word : List ℕ
reach_word = 114 ∷ 101 ∷ 97 ∷ 99 ∷ 104 ∷ []  -- reach

abbrev pub clear_word : List ℕ
clear_word = 99 ∷ 108 ∷ 101 ∷ 97 ∷ 114 ∷ []  -- clear

abbrev pub blocked_word : List ℕ
blocked_word = 98 ∷ 108 ∷ 111 ∷ 99 ∷ 107 ∷ 101 ∷ 100 ∷ []  -- blocked

abbrev pub rule_word : List ℕ
rule_word = 114 ∷ 117 ∷ 108 ∷ 101 ∷ []  -- rule

abbrev pub slots_word : List ℕ
slots_word = 115 ∷ 108 ∷ 111 ∷ 116 ∷ 115 ∷ []  -- slots

abbrev pub channels_word : List ℕ
channels_word = 99 ∷ 104 ∷ 97 ∷ 110 ∷ 110 ∷ 101 ∷ 108 ∷ 115 ∷ []  -- channels

abbrev pub none_word : List ℕ
none_word = 110 ∷ 111 ∷ 110 ∷ 101 ∷ []  -- none

abbrev pub equals_mark : ℕ
equals_mark = 61  -- =

abbrev pub dash_mark : ℕ
dash_mark = 45  -- -

abbrev pub largest : ℕ
largest = 65535

-- the first word of an edit
abbrev pub edit_name : Edit → List ℕ
edit_name (SetLoad cell load) = load_word
edit_name (SetReach from to) = reach_word
edit_name (ClearReach from to) = clear_word
edit_name (SetRule rule) = rule_word
edit_name (SetSlots slots) = slots_word
edit_name (SetChannels channels) = channels_word
edit_name Unblock = blocked_word

-- the second
abbrev pub edit_value : Edit → List ℕ
edit_value (SetLoad cell load) = decimal cell ++ equals_mark ∷ decimal load
edit_value (SetReach from to) = decimal from ++ dash_mark ∷ decimal to
edit_value (ClearReach from to) = decimal from ++ dash_mark ∷ decimal to
edit_value (SetRule rule) = decimal rule
edit_value (SetSlots slots) = decimal slots
edit_value (SetChannels channels) = decimal channels
edit_value Unblock = none_word

-- "0 to 65,535"
abbrev pub edit_fits : Edit → Bool
edit_fits (SetLoad cell load) = leb cell largest && leb load largest
edit_fits (SetReach from to) = leb from largest && leb to largest
edit_fits (ClearReach from to) = leb from largest && leb to largest
edit_fits (SetRule rule) = leb rule largest
edit_fits (SetSlots slots) = leb slots largest
edit_fits (SetChannels channels) = leb channels largest
edit_fits Unblock = true
