-- The line of a site file in an audit: "cells, slots, channels, rule, chained or in the class or renumbered or neither, what `find` says, how many
-- channel-slots it takes, and, where a plan file of the same name stands beside it, valid or the first thing wrong, and how many changes `mend` would make".
use Rattle.std.specs.Prelude.{ℕ, zero, suc, ◌-◌, Bool, ◌||◌, List, [], ◌∷◌, ◌++◌, ltb, eqb, length, get_or, Result, Ok, Err}
use Rattle.laws.specs.Choice.{pick}
use Rattle.site.specs.declared.Site.{Site}
use Rattle.records.specs.declared.Refusal.{Refusal}
use Rattle.checker.specs.declared.CheckError.{CheckError}
use Rattle.mender.specs.declared.MendError.{MendError}
use Rattle.mender.specs.declared.MendError.TheVariants as mend
use Rattle.finder.specs.declared.Way.{Way}
use Rattle.finder.specs.declared.FindError.{FindError}
use Rattle.oneway.specs.TwoWay.{is_valid}
use Rattle.auditing.specs.Row.{form_phrase}
use Rattle.auditing.specs.declared.Form.{Form}
use Rattle.auditing.specs.declared.Extent.{Extent}
use Rattle.phrases.specs.Phrases.{phrase}
use Rattle.phrases.specs.declared.Phrase.{Phrase}
use Rattle.phrases.specs.declared.Phrase.TheVariants.{Row}
use Rattle.verdicts.specs.Said.{read_said, check_said}
use Rattle.verdicts.specs.declared.File.TheVariants.{SiteFile, PlanFile}
use Rattle.finds.specs.Last.{last_word}
use Rattle.say_audit.specs.Lines.{audit_lines, chained_form, takes_of_row, takes_to_row, plan_row, mended_with_row}
use Rattle.say_audit.specs.Lines.{mend_no_room_row, not_mended_row, audit_end_row, two_way_row, other_size_row, colon_row, unread_row, unread_plan_row}

-- a row with its values
abbrev pub audit_part : (row a b c d : ℕ) → List ℕ
audit_part row a b c d = phrase audit_lines (Row row a b c d)

-- ---- the name

-- a byte that is no character of a line is shown as a question mark, 63, so that the table keeps its lines
unfoldable pub shown_byte : ℕ → ℕ
shown_byte b = pick (ltb b 32 || eqb b 127) 63 b

-- the first so many bytes of a name
unfoldable pub shown_to : List ℕ → ℕ → List ℕ
shown_to name zero = []
shown_to name (suc i) = shown_to name i ++ (shown_byte (get_or name i 0) ∷ [])

abbrev pub shown_name : List ℕ → List ℕ
shown_name name = shown_to name (length name)

-- ---- the site

-- "how many channel-slots it takes", of the open ones
unfoldable pub takes_of_phrase : Extent → ℕ → Phrase
takes_of_phrase t room = pick (eqb t.needs t.enough) (Row takes_of_row t.needs room 0 0) (Row takes_to_row t.needs t.enough room 0)

abbrev pub audited_said : Site → Form → Result Way FindError → Extent → ℕ → List ℕ
audited_said s form found takes room =
    phrase audit_lines (form_phrase chained_form s form) ++ (last_word found ++ phrase audit_lines (takes_of_phrase takes room))

-- no plan file stands beside it
abbrev pub line_end : List ℕ
line_end = audit_part audit_end_row 0 0 0 0

-- "A file that is refused has its refusal on its line, and the rest goes on."
abbrev pub site_refused : Result Unit Refusal → List ℕ
site_refused answer = audit_part colon_row 0 0 0 0 ++ read_said SiteFile answer

abbrev pub unread_said : List ℕ
unread_said = audit_part unread_row 0 0 0 0

-- ---- the plan

-- a text without its last byte, the end of its line
abbrev pub bare_from : ℕ → List ℕ → List ℕ
bare_from b [] = []
bare_from b (c ∷ text) = b ∷ bare_from c text

abbrev pub bare : List ℕ → List ℕ
bare [] = []
bare (b ∷ text) = bare_from b text

-- "how many changes `mend` would make"
abbrev pub mend_phrase : Result ℕ MendError → Phrase
mend_phrase (Ok number) = Row mended_with_row number 0 0 0
mend_phrase (Err mend.TableShort) = Row not_mended_row 0 0 0 0
mend_phrase (Err (mend.NoRoom cell short)) = Row mend_no_room_row cell 0 0 0
mend_phrase (Err (mend.ListShort number)) = Row not_mended_row 0 0 0 0
mend_phrase (Err (mend.Record f)) = Row not_mended_row 0 0 0 0

-- "a plan that is valid if only two-way ranges clash, and not valid in truth"
abbrev pub remark_phrase : Bool → Phrase
remark_phrase unseen = pick unseen (Row two_way_row 0 0 0 0) (Row audit_end_row 0 0 0 0)

abbrev pub after_said : Result ℕ MendError → Bool → List ℕ
after_said mended unseen = phrase audit_lines (mend_phrase mended) ++ phrase audit_lines (remark_phrase unseen)

abbrev pub valid_said : Site → Result Unit CheckError → List ℕ
valid_said s verdict = audit_part plan_row 0 0 0 0 ++ check_said s verdict

abbrev pub wrong_said : Site → Result Unit CheckError → Result ℕ MendError → Bool → List ℕ
wrong_said s verdict mended unseen = audit_part plan_row 0 0 0 0 ++ (bare (check_said s verdict) ++ after_said mended unseen)

-- "valid or the first thing wrong", in check's words
abbrev pub checked_said : Site → Result Unit CheckError → Result ℕ MendError → Bool → List ℕ
checked_said s verdict mended unseen = pick (is_valid verdict) (valid_said s verdict) (wrong_said s verdict mended unseen)

abbrev pub plan_refused : Result Unit Refusal → List ℕ
plan_refused answer = audit_part plan_row 0 0 0 0 ++ read_said PlanFile answer

abbrev pub other_size_said : (cells slots channels : ℕ) → List ℕ
other_size_said cells slots channels = audit_part other_size_row cells slots channels 0

abbrev pub unread_plan : List ℕ
unread_plan = audit_part unread_plan_row 0 0 0 0

-- where a text that begins at `at` has its last byte, as the code has it
unfoldable pub last_byte : ℕ → ℕ → ℕ
last_byte at end = pick (ltb at end) (end - 1) at
